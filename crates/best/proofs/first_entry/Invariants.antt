-- `best::first_entry` meets its contract.
use Rattle.header.specs.Answers.{plain}
use Rattle.line.specs.Answers.{line_is}
use Rattle.table.specs.Answers.{allowed_is}
use Rattle.best.specs.Answers.{order_is}
use Rattle.planning.specs.Rule.{pair_offer}
use Rattle.interval.specs.Answers.{levels_of}
use Rattle.model.specs.Best.{turn}
use Rattle.model.specs.Table.{word_in}
use Rattle.trellis.specs.Table.{first_at}
use Rattle.trellis.specs.Pairs.{row, rows}
use mathlib.Core.List.{◌++◌}
use mathlib.Core.Option.{none}
use mathlib.Core.Path.{◌≡◌}
use Prim.Native.Nat.{◌+◌, ◌≤◌, ◌-◌}
use Rattle.best.proofs.first_entry.Given as goal

abbrev pub invariant-loop-choice : goal.invariant-loop-choice
invariant-loop-choice l = (l.choice ≤ l.count) × (first_at (pair_offer ◌+◌ (line_is l.line) (allowed_is l.job (plain l.header) l.choices) (word_in (line_is l.line) l.next) (levels_of l.from)) l.word (rows (turn (order_is l.order) l.rates) l.at l.count ++ row l.rate l.choice) ≡ none)

abbrev pub invariant-search : goal.invariant-search
invariant-search l = (l.at ≤ l.rates) × (first_at (pair_offer ◌+◌ (line_is l.line) (allowed_is l.job (plain l.header) l.choices) (word_in (line_is l.line) l.next) (levels_of l.from)) l.word (rows (turn (order_is l.order) l.rates) l.at l.count) ≡ none)
