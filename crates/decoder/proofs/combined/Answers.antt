-- `decoder::combined` meets its contract.
use mathlib.Core.Path.{refl}
use native.Mathlib.Omega.{arith}
use Rattle.decoder.specs.Answers.{combine}
use Rattle.decoder.proofs.combined.Goals as goal

pub returns-in-Sum : goal.returns-in-Sum
unfolding combine
returns-in-Sum c = (rw c.in-Sum.is refl, omega arith)

pub returns-in-Greatest : goal.returns-in-Greatest
unfolding combine
returns-in-Greatest c = (rw c.in-Greatest.is c.max.ensures, omega (arith, c.max.ensures))
