-- `decoder::with_choice` meets its contract.
use native.Mathlib.Omega.{arith}
use Rattle.decoder.proofs.Choices.{closed_priced, large_priced, open_priced}
use Rattle.decoder.proofs.with_choice.Goals as goal

pub returns-then-not-free : goal.returns-then-not-free
returns-then-not-free c = closed_priced _ _ _ _ c.if-not-free.true

pub returns-then-at-ge-BLOCK : goal.returns-then-at-ge-BLOCK
returns-then-at-ge-BLOCK c = large_priced _ _ _ _ c.if-not-free.false c.if-at-ge-BLOCK.true

pub returns : goal.returns
returns c =
    open_priced _ _ c.args.size _ _ c.if-not-free.false (omega (arith, c.if-at-ge-BLOCK.false, c.requires)) c.min.ensures
