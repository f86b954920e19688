-- `change::both_totals` meets its contract.
use Rattle.model.specs.Replay.{plus_each, plus}
use Rattle.interval.specs.Answers.{totals_of}
use mathlib.Core.List.{List, ◌∷◌, zip_with}
use mathlib.Core.Path.{ap}
use Prim.Native.Nat.{ℕ, ◌+◌}
use native.Mathlib.Omega.{arith}
use Rattle.change.proofs.both_totals.Goals as goal

pub overflow_add-result-4 : goal.overflow_add-result-4
unfolding totals_of
overflow_add-result-4 c = record { fits = omega (arith, c.requires.unused 0) }

pub returns : goal.returns
unfolding totals_of plus plus_each zip_with
returns c = let a = c.args in ap (λ (l : List ℕ). record { distortion = a.before.distortion + a.rest.distortion; source = a.before.source + a.rest.source; channel = a.before.channel + a.rest.channel; unused = (a.before.unused + a.rest.unused) ∷ l }) c.both_unused.ensures
