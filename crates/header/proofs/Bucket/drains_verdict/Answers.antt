-- `header::Bucket::drains_verdict` meets its contract.
use mathlib.Core.Path.{sym, ◌∙◌}
use Rattle.header.proofs.Drains.{drain_kept, drain_broken}
use Rattle.header.proofs.Bucket.drains_verdict.Goals as goal

pub returns-then-drains : goal.returns-then-drains
returns-then-drains c = drain_kept _ (sym c.drains.ensures ∙ c.if-drains.true)

pub returns-else-drains : goal.returns-else-drains
returns-else-drains c = drain_broken _ (sym c.drains.ensures ∙ c.if-drains.false)
