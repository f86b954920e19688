-- `job::read_units` meets its contract: the units that are left to read decide, whichever turn the loop is at.
use Rattle.header.proofs.Told.{handed_as}
use Rattle.job.specs.Answers.{reading}
use Prim.Native.Nat.{◌-◌}
use mathlib.Core.Path.{◌≡◌, sym, ◌∙◌}
use native.Mathlib.Omega.{arith}
use borrow.Author.Rules.{rules}
use Rattle.header.specs.Answers.{plain}
use Rattle.job.specs.Answers.{reading}
use Rattle.job.proofs.Opening.{units_start, units_end, units_refused, units_step, units_room}
use Rattle.job.proofs.read_units.Goals as goal

pub loop-init : goal.loop-init
unfolding plain
loop-init c = let a = c.args in (search rules, search rules, units_start a.job.now (plain a.header) a.start)

pub record_verdict-requires : goal.record_verdict-requires
unfolding plain
record_verdict-requires c = search rules

pub returns-in_err-record_verdict : goal.returns-in_err-record_verdict
unfolding plain
returns-in_err-record_verdict c = handed_as reading _ _ c.from_residual.ensures (sym (c.loop.invariant.2 ∙ units_refused _ (plain c.args.header) _ _ (omega arith) _ c.record_verdict.ensures _ c.in_err-record_verdict.was))

pub loop-preserved : goal.loop-preserved
unfolding plain
loop-preserved c =
    let a = c.args in (
      search rules,
      units_room a.job.now (plain a.header) c.loop.at c.loop.counter (omega arith) _ c.record_verdict.ensures c.in_ok-record_verdict.was (omega arith),
      c.loop.invariant.2 ∙ units_step _ (plain a.header) _ _ (omega arith) _ c.record_verdict.ensures c.in_ok-record_verdict.was,
    )

pub returns : goal.returns
unfolding plain
returns c =
    let a = c.args in
    let k : c.loop.counter ≡ a.header.units = omega arith in
    sym (c.loop.invariant.2 ∙ rw k (units_end a.job.now (plain a.header) _))
