-- `records::put_units` meets its contract: what is left to write decides, whichever turn the loop is at.
use Rattle.fields.proofs.Setting.{put_size}
use Rattle.records.proofs.Records.{part_length, unit_part, units_start, units_step, units_end, room}
use Rattle.writing.proofs.Lists.{codings_count}
use Rattle.format.specs.Places.{unit_size}
use Rattle.header.specs.Answers.{plain}
use Rattle.fields.specs.Written.{put_at}
use Prim.Native.Nat.{◌+◌, ◌≤◌}
use mathlib.Core.Path.{sym, ap, ◌∙◌}
use native.Mathlib.Omega.{arith}
use lib.ListN.{length}
use Rattle.records.proofs.put_units.Goals as goal

pub put_unit-requires : goal.put_unit-requires
unfolding plain
put_unit-requires c =
    -- the unit's codings are in the lists, and there is room for its record
    let there : c.loop.from + c.args.header.choices ≤ length c.args.sizes.now = omega (arith, room c.loop.counter c.args.header.units c.args.header.choices (omega arith)) in
    let space : c.loop.place + unit_size c.args.header.choices ≤ length c.loop.out = omega (arith, room c.loop.counter c.args.header.units (unit_size c.args.header.choices) (omega arith)) in
    let s = part_length c.args.sizes.now c.loop.from c.args.header.choices there in
    let d = part_length c.args.distortions.now c.loop.from c.args.header.choices (omega (arith, there)) in
    (omega arith, omega (arith, c.requires.0), rw s space)

pub loop-preserved : goal.loop-preserved
unfolding plain
loop-preserved c =
    -- the unit's codings are in the lists, and there is room for its record
    let there : c.loop.from + c.args.header.choices ≤ length c.args.sizes.now = omega (arith, room c.loop.counter c.args.header.units c.args.header.choices (omega arith)) in
    let e = unit_part c.args.sizes.now c.args.distortions.now c.loop.from c.args.header.choices there (omega arith) in
    let n = codings_count c.args.sizes.now c.args.distortions.now (omega arith) in (
      omega arith,
      omega arith,
      omega arith,
      put_size _ _ _ _ c.put_unit.ensures ∙ c.loop.invariant.3,
      units_step _ _ c.loop.out _ c.loop.place c.loop.from _ c.loop.counter (omega arith) (omega (arith, there)) (c.put_unit.ensures ∙ ap (put_at c.loop.out c.loop.place) e) ∙ c.loop.invariant.4,
    )

pub returns : goal.returns
returns c =
    sym (units_end _ _ c.loop.out c.loop.place c.loop.from _ c.loop.counter (omega arith)) ∙ c.loop.invariant.4 ∙ units_start _ _ _ _ _
