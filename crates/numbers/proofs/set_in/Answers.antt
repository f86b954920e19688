-- `numbers::set_in` meets its contract: no set, or its parts.
use mathlib.Core.Path.{sym, ◌∙◌, ap}
use native.Mathlib.Omega.{arith}
use Rattle.pinning.specs.PinSet.{fresh}
use Rattle.pinning.proofs.Numbers.{read_other}
use Rattle.pinset.specs.Answers.{set_of}
use Rattle.numbers.proofs.Telling.{size_told, set_read}
use Rattle.numbers.proofs.set_in.Goals as goal

pub returns-then-not-shaped : goal.returns-then-not-shaped
returns-then-not-shaped c = c.fresh.ensures ∙ ap fresh c.no_header.ensures ∙ sym (read_other _ (sym c.shaped.ensures ∙ c.if-not-shaped.true))

pub bounds-list-525 : goal.bounds-list-525
bounds-list-525 c = omega (arith, size_told _ (sym c.shaped.ensures ∙ c.if-not-shaped.false))

pub bounds-list-526 : goal.bounds-list-526
bounds-list-526 c = omega (arith, size_told _ (sym c.shaped.ensures ∙ c.if-not-shaped.false))

pub bounds-list-527 : goal.bounds-list-527
bounds-list-527 c = omega (arith, size_told _ (sym c.shaped.ensures ∙ c.if-not-shaped.false))

pub returns : goal.returns
unfolding set_of
returns c = set_read _ (sym c.shaped.ensures ∙ c.if-not-shaped.false) _ _ c.header_in.ensures c.pins_in.ensures
