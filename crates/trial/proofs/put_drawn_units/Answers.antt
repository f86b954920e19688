-- `trial::put_drawn_units` meets its contract: what is left to write decides, whichever turn the loop is at.
use Rattle.trial.proofs.Drawing.{lists_long, unit_drawn, unit_after}
use Rattle.trials.specs.Draws.{after}
use Rattle.fields.specs.Written.{put_at}
use Rattle.fields.proofs.Setting.{put_size}
use Rattle.model.specs.Job.{Coding}
use Rattle.format.specs.JobBytes.{unit_bytes}
use Rattle.format.specs.Places.{unit_size}
use Rattle.header.specs.Answers.{plain}
use Rattle.records.proofs.Records.{units_start, units_step, units_end, room}
use Rattle.std.proofs.Common.{◌≡◌, ◌+◌, ◌*◌, ◌≤◌, List, length, sym, refl, ap, ◌∙◌, suc-mul, arith}
use Rattle.trial.proofs.put_drawn_units.Goals as goal

pub loop-init : goal.loop-init
loop-init c = let z : 0 * c.args.header.choices ≡ 0 = omega arith in
    (omega arith, rw z (unfold after in refl), omega arith, refl, rw z)

pub put_next_unit-drawn-requires : goal.put_next_unit-drawn-requires
unfolding plain
put_next_unit-drawn-requires c =
    -- there is room for the record of one unit more
    let space : c.loop.place + unit_size c.args.header.choices ≤ length c.loop.out = omega (arith, room c.loop.counter c.args.header.units (unit_size c.args.header.choices) (omega arith)) in
    (omega (arith, c.requires.0), space)

pub loop-preserved : goal.loop-preserved
loop-preserved c =
    let m = c.args.header.choices in
    let n = c.args.header.units in
    let k = unit_drawn c.args.state n m c.loop.counter (omega arith) in
    let z : c.loop.counter * m + m ≡ (c.loop.counter + 1) * m = omega (arith, suc-mul c.loop.counter m) in (
      omega arith,
      unit_after c.args.state m c.loop.counter c.loop.drawn _ c.loop.invariant.1 c.put_next_unit-drawn.ensures.1,
      omega arith,
      put_size _ _ _ _ c.put_next_unit-drawn.ensures.0 ∙ c.loop.invariant.3,
      rw (← z) (units_step _ _ c.loop.out _ c.loop.place (c.loop.counter * m) n c.loop.counter (omega arith) (omega (arith, lists_long c.args.state n m, room c.loop.counter n m (omega arith))) (c.put_next_unit-drawn.ensures.0 ∙ rw c.loop.invariant.1 (ap (λ (cs : List Coding). put_at c.loop.out c.loop.place (unit_bytes m cs)) k)) ∙ c.loop.invariant.4),
    )

pub returns : goal.returns
returns c =
    sym (units_end _ _ c.loop.out c.loop.place _ _ c.loop.counter (omega arith)) ∙ c.loop.invariant.4 ∙ units_start _ _ _ _ _
