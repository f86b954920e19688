-- `job::codings_verdict` meets its contract: the codings that are left to check decide, whichever turn the loop is at.
use Prim.Native.Nat.{◌-◌}
use mathlib.Core.Path.{sym, ◌∙◌}
use native.Mathlib.Omega.{arith}
use borrow.Author.Rules.{rules}
use Rattle.format.proofs.Left.{codings_start, codings_end, codings_step, codings_here}
use Rattle.format.proofs.Places.{entries_count}
use Rattle.header.specs.Answers.{verdict}
use Rattle.job.proofs.Loops.{coding_there}
use Rattle.job.proofs.codings_verdict.Goals as goal

pub loop-x-init : goal.loop-x-init
loop-x-init c = (search rules, codings_start _)

pub returns-then-not-coding_fits : goal.returns-then-not-coding_fits
returns-then-not-coding_fits c =
    let k = sym c.coding_fits.ensures ∙ c.if-not-coding_fits.true in
    sym (c.loop-x.invariant.1 ∙ codings_here _ _ (rw entries_count (omega arith)) _ _ (coding_there _ _ _ (omega arith) _ _ c.u16_at.ensures c.u32_at.ensures) k)

pub loop-x-preserved : goal.loop-x-preserved
loop-x-preserved c =
    let k = sym c.coding_fits.ensures ∙ c.if-not-coding_fits.false in
    (search rules, c.loop-x.invariant.1 ∙ codings_step _ _ (rw entries_count (omega arith)) _ _ (coding_there _ _ _ (omega arith) _ _ c.u16_at.ensures c.u32_at.ensures) k)

pub returns : goal.returns
returns c = sym (c.loop-x.invariant.1 ∙ codings_end _ _ (rw entries_count (omega arith)))
