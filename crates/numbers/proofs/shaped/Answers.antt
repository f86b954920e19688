-- `numbers::shaped` meets its contract: the length, the width of fields and pins, the kind, in this order.
use mathlib.Core.Path.{sym, ◌∙◌}
use borrow.Author.Rules.{rules}
use Rattle.numbers.proofs.Telling.{too_short, too_wide, two_kind, by_one_kind}
use Rattle.numbers.proofs.shaped.Goals as goal

pub returns-then-list-lt-SIZE : goal.returns-then-list-lt-SIZE
returns-then-list-lt-SIZE c = too_short _ (search rules)

pub returns-then-not-two_byte : goal.returns-then-not-two_byte
returns-then-not-two_byte c = too_wide _ c.if-list-lt-SIZE.false (sym c.two_byte.ensures ∙ c.if-not-two_byte.true)

pub returns-then-list : goal.returns-then-list
returns-then-list c = two_kind _ c.if-list-lt-SIZE.false (sym c.two_byte.ensures ∙ c.if-not-two_byte.false) c.if-list.true

pub returns : goal.returns
returns c = c.one_kind.ensures ∙ by_one_kind _ c.if-list-lt-SIZE.false (sym c.two_byte.ensures ∙ c.if-not-two_byte.false) c.if-list.false
