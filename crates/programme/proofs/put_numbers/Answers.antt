-- `programme::put_numbers` meets its contract: each turn writes one programme more, and the loop ends where none is left or none has room.
use Rattle.std.proofs.Common.{◌<◌, ◌++◌, ◌∙◌, ap, ℕ, suc, length, take, drop, arith, add-one}
use mathlib.Core.Logic.{inl, inr}
use Rattle.programme.specs.Programmes.{numbers_of}
use Rattle.programme.proofs.Put.{twice, twice_is, one_more, all_written}
use Rattle.programme.proofs.put_numbers.Goals as goal

pub loop-at-preserved : goal.loop-at-preserved
loop-at-preserved c =
    let i = c.loop-at.invariant in
    let fits : suc (twice c.loop-at.at) < length c.args.numbers.now = omega (arith, i.place) in
    record {
      within = omega arith;
      place = rw (add-one c.loop-at.at) (omega (arith, i.place));
      room = omega arith;
      written = rw (i.written, i.place, add-one (twice c.loop-at.at), add-one c.loop-at.at) (one_more c.args.list.now c.args.numbers.now c.loop-at.at c.loop-at-test.true fits);
    }

pub returns-else-to-numbers : goal.returns-else-to-numbers
returns-else-to-numbers c =
    let i = c.loop-at.invariant in (
      all_written (length c.args.list.now) (length c.args.numbers.now) c.loop-at.at i.within (omega (arith, i.place)) (inr (omega (arith, i.place))),
      i.written ∙ ap (λ (t : ℕ). numbers_of (take c.loop-at.at c.args.list.now) ++ drop t c.args.numbers.now) (twice_is c.loop-at.at),
    )

pub returns-after-loop-at : goal.returns-after-loop-at
returns-after-loop-at c =
    let i = c.loop-at.invariant in (
      all_written (length c.args.list.now) (length c.args.numbers.now) c.loop-at.at i.within (omega (arith, i.place)) (inl c.loop-at-test.false),
      i.written ∙ ap (λ (t : ℕ). numbers_of (take c.loop-at.at c.args.list.now) ++ drop t c.args.numbers.now) (twice_is c.loop-at.at),
    )
