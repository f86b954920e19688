-- `table::prices_of` meets its contract.
use Rattle.block.specs.Blocks.{LeastOf}
use Rattle.planning.specs.Prices.{price_at}
use Rattle.header.specs.Answers.{plain}
use Rattle.table.specs.Answers.{allowed_is}
use Prim.Native.Nat.{◌≤◌, ◌-◌}
use Rattle.table.proofs.prices_of.Given as goal

abbrev pub invariant-loop-choice : goal.invariant-loop-choice
invariant-loop-choice l = (l.choice ≤ l.total) × LeastOf 256 l.choice (λ r x. price_at r (allowed_is l.job (plain l.header) l.choices x)) l.prices
