-- `draft::lengths_verdict` meets its contract.
use Rattle.header.specs.Answers.{plain}
use Rattle.header.specs.declared.refusal.Refusal.TheVariants as r
use Rattle.header.proofs.Verdicts.{refuses, fits}
use mathlib.Core.Path.{refl}
use native.Mathlib.Omega.{arith}
use Rattle.draft.proofs.lengths_verdict.Goals as goal

pub returns-then-rates-header : goal.returns-then-rates-header
unfolding plain
returns-then-rates-header c = refuses r.Lengths _ (refl, (refl, (refl, tt))) (λ h. omega arith)

pub returns-then-sizes-count : goal.returns-then-sizes-count
unfolding plain
returns-then-sizes-count c = refuses r.Lengths _ (refl, (refl, (refl, tt))) (λ h. omega arith)

pub returns-then-distortions-count : goal.returns-then-distortions-count
unfolding plain
returns-then-distortions-count c = refuses r.Lengths _ (refl, (refl, (refl, tt))) (λ h. omega arith)

pub returns : goal.returns
unfolding plain
returns c = fits _ (omega arith)
