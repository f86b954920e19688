-- The archive's set, and what calls on it come to: `Archive`.
use Prim.Native.Nat.{ℕ}
use mathlib.Core.Path.{◌≡◌, refl, sym, ◌∙◌, ap}
use mathlib.Core.Option.{Option, some}
use mathlib.Core.List.{List, [], ◌∷◌, map}
use Rattle.model.specs.Job.{Job}
use Rattle.model.specs.Pins.{Call}
use Rattle.format.specs.Parser.{took, on_read}
use Rattle.format.specs.JobBytes.{opening, archive, parse}
use Rattle.format.specs.Claims.{Drains}
use Rattle.format.proofs.Places.{well_read}
use Rattle.format.proofs.Bounds.{limited, two_doors}
use Rattle.pinning.specs.PinSet.{PinSet}
use Rattle.pinning.specs.Calls.{opened, open_call, refuse, call, after, run}
use Rattle.pinning.specs.Claims.{ArchiveClaim, Archive}
use Rattle.pinning.proofs.Agree.{checked_refused}
use Rattle.pinning.proofs.History.{fresh_matches}

module _ (b : List ℕ) (j : Job) (n : ℕ) (parsed : parse archive b ≡ took j n) where
  -- a job that opening does not take takes no call
  module _ (f : Drains opening j → ⊥) where
    no_call : (s : PinSet) (k : Call) → call b s k ≡ refuse s 17
    unfolding call on_read
    no_call s k = rw (checked_refused opening b s 17 ((two_doors b j n).else_17 parsed f))

    all_refused : (s : PinSet) (calls : List Call) → (run b s calls).answers ≡ map (λ k. some 17) calls
    unfolding run after refuse
    all_refused s [] = refl
    all_refused s (k ∷ calls) = rw (no_call s k) (ap (λ (os : List (Option ℕ)). some 17 ∷ os) (all_refused s calls))

    none_made : (s : PinSet) (calls : List Call) → (run b s calls).set ≡ s
    unfolding run after refuse
    none_made s [] = refl
    none_made s (k ∷ calls) = rw (no_call s k) (none_made s calls)

  archive_claim : ArchiveClaim b j n
  unfolding open_call opened
  archive_claim = record {
    answers = rw parsed;
    matches = rw parsed (fresh_matches j (limited j (well_read archive b j n parsed).well_formed));
    no_calls = no_call;
    answered = all_refused;
    unchanged = none_made;
    as_opening = λ d. ap opened (parsed ∙ sym ((two_doors b j n).opening_iff.1 (parsed, d)));
  }

pub archived_sets : Archive
archived_sets = archive_claim
