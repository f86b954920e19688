-- `parts::decoder_step` meets its contract.
use mathlib.Core.Path.{sym}
use native.Mathlib.Omega.{arith}
use Rattle.model.proofs.Decoder.{decoder_steps}
use Rattle.parts.specs.Answers.{violation, decoded}
use borrow.Author.Rules.{rules}
use Rattle.parts.proofs.decoder_step.Goals as goal

pub returns-then-size-peak : goal.returns-then-size-peak
unfolding decoded violation
returns-then-size-peak c = sym ((decoder_steps _ _ _ _).over_iff.1 (search rules))

pub returns-then-peak-taken : goal.returns-then-peak-taken
unfolding decoded violation
returns-then-peak-taken c = sym ((decoder_steps _ _ _ _).short_iff.1 (search rules, search rules))

pub returns : goal.returns
unfolding decoded
returns c = sym (((decoder_steps _ _ _ _).holds_iff _).1 (search rules, omega arith))
