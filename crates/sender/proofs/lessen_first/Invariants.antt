-- `sender::lessen_first` meets its contract.
use Rattle.block.specs.Blocks.{Lessened}
use Rattle.sender.proofs.lessen_first.Given as goal

abbrev pub invariant-loop-lessened : goal.invariant-loop-lessened
invariant-loop-lessened l = Lessened 0 l.lessened-index (λ k. l.word) l.initial.lessened-items l.lessened-items
