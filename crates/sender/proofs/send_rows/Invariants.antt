-- `sender::send_rows` meets its contract.
use Rattle.block.specs.Blocks.{Made}
use Rattle.sender.specs.Answers.{line_is}
use Rattle.planning.specs.Passes.{least_below, arrived, word_if}
use Rattle.model.specs.Table.{layer_words, state_at, word_in}
use mathlib.Core.Path.{◌≡◌}
use lib.ListN.{length, get_or, take}
use Prim.Native.Nat.{◌≤◌, ◌*◌}
use Rattle.sender.proofs.send_rows.Given as goal

abbrev pub invariant-loop-level : goal.invariant-loop-level
invariant-loop-level l = (l.level ≤ l.height) × (length l.block ≡ 256) × (length l.part ≡ length l.initial.part) × Made 0 (l.level * l.width) (λ i. least_below (length (line_is l.line).rates) (λ y. word_if (word_in (line_is l.line) (take (layer_words (line_is l.line)) l.initial.part)) (arrived (line_is l.line) (state_at (line_is l.line) i) (get_or (line_is l.line).rates y 0)))) l.initial.part l.part
