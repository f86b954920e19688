-- `job::codings_verdict` meets its contract: the codings that are left to check decide, whichever turn the loop is at.
use Prim.Native.Nat.{◌-◌, ◌≤◌}
use mathlib.Core.Path.{◌≡◌}
use Rattle.format.specs.Fields.{fields}
use Rattle.format.specs.Limits.{broken}
use Rattle.format.specs.JobBytes.{coding_limits, codings, entry_widths}
use Rattle.format.proofs.Left.{codings_left}
use Rattle.job.proofs.codings_verdict.Given as goal

abbrev pub invariant-loop-x : goal.invariant-loop-x
invariant-loop-x l = (l.x ≤ l.choices) × (broken (coding_limits (codings (fields (entry_widths l.choices) l.body))) ≡ codings_left (codings (fields (entry_widths l.choices) l.body)) l.x)
