-- A trellis with a limit on what each move may cost: a move that costs more is left out.
use Rattle.std.specs.Prelude.{ℕ, ◌≤◌, Bool, true, false, leb}
use Rattle.std.proofs.Math.Option.{Option, none, some}
use Rattle.trellis.specs.Trellis.{Trellis}

-- a cost is at most the limit, if there is one
pub data UpTo : Option ℕ → ℕ → Type 0 where
  no_limit : {c : ℕ} → UpTo none c
  up_to : {θ c : ℕ} → c ≤ θ → UpTo (some θ) c

unfoldable pub keeps_to : Option ℕ → ℕ → Bool
keeps_to none c = true
keeps_to (some θ) c = leb c θ

unfoldable pub only : {S : Type 0} → Bool → Option S → Option S
only true o = o
only false o = none

-- the same moves and costs; a move that costs more than the limit leads nowhere
unfoldable pub limited : {S A : Type 0} → Option ℕ → Trellis S A → Trellis S A
limited θ τ = record { moves = τ.moves; step = λ t s a. only (keeps_to θ (τ.cost t a)) (τ.step t s a); cost = τ.cost }
