-- What a call that fills a list answers as a number and leaves, from what the call within it answered.
use mathlib.Core.Path.{◌≡◌}
use mathlib.Core.List.{List}
use Prim.Native.Nat.{ℕ}
use Rattle.std.specs.Prelude.{Ok, Err}
use Rattle.base.specs.Lent.{Ended}
use Rattle.header.proofs.Told.{Verdict}
use Rattle.header.specs.Answers.{done}
use Rattle.header.specs.Refusals.{code}
use Rattle.exporting.specs.Exports.{number_of, filled, done_export}

pub ended_told : (x : Verdict) (new : List ℕ) (e : Ended (Unit {0})) → record { answer = done x; list = new } ≡ e → filled (code x) new ≡ done_export e
unfolding done_export number_of
ended_told (Ok u) new e q = rw (← q)
ended_told (Err r) new e q = rw (← q)
