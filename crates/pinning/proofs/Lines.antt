-- The lines that pin bytes stand for: each by its byte, with one byte set anew, and those of a set without pins.
use Prim.Native.Nat.{ℕ, zero, suc, ◌<◌, ◌≤◌}
use mathlib.Core.Path.{◌≡◌, refl, ◌∙◌, ap}
use mathlib.Core.Option.{Option, none}
use mathlib.Core.List.{List, [], ◌∷◌, map}
use native.Mathlib.Omega.{arith}
use lib.ListN.{length, get_or, take, set, replicate, length-take, length-map}
use lib.Seq.{take-set-lt}
use Rattle.model.specs.Pins.{no_pins}
use Rattle.format.specs.Choices.{no_choice, choice_of}
use Rattle.format.proofs.Choices.{of_mark}
use Rattle.pinning.specs.PinSet.{lines, unpinned}

-- the line of a unit is what its byte stands for
pub lines_at : (n : ℕ) (bytes : List ℕ) (i : ℕ) → n ≤ length bytes → i < n → get_or (lines n bytes) i none ≡ choice_of (get_or bytes i 0)
unfolding lines
lines_at zero bytes i h l = absurd (omega arith)
lines_at (suc n) [] i h l = absurd (omega arith)
lines_at (suc n) (x ∷ bytes) zero h l = refl
lines_at (suc n) (x ∷ bytes) (suc i) h l = lines_at n bytes i (omega arith) (omega arith)

pub lines_length : (n : ℕ) (bytes : List ℕ) → n ≤ length bytes → length (lines n bytes) ≡ n
unfolding lines
lines_length n bytes h = length-map (take n bytes) choice_of ∙ length-take n bytes ∙ omega arith

map_set : (l : List ℕ) (i x : ℕ) → map choice_of (set l i x) ≡ set (map choice_of l) i (choice_of x)
map_set [] i x = refl
map_set (y ∷ l) zero x = refl
map_set (y ∷ l) (suc i) x = ap (λ (r : List (Option ℕ)). choice_of y ∷ r) (map_set l i x)

pub lines_set : (n : ℕ) (bytes : List ℕ) (i x : ℕ) → i < n → lines n (set bytes i x) ≡ set (lines n bytes) i (choice_of x)
unfolding lines
lines_set n bytes i x h = ap (map choice_of) (take-set-lt n bytes i x h) ∙ map_set (take n bytes) i x

lines_replicate : (n k : ℕ) → n ≤ k → map choice_of (take n (replicate k no_choice)) ≡ replicate n none
lines_replicate zero k h = refl
lines_replicate (suc n) zero h = absurd (omega arith)
lines_replicate (suc n) (suc k) h = rw (of_mark) (ap (λ (r : List (Option ℕ)). none ∷ r) (lines_replicate n k (omega arith)))

pub lines_unpinned : (n : ℕ) → n ≤ 512 → lines n unpinned ≡ no_pins n
unfolding lines unpinned no_pins
lines_unpinned n h = lines_replicate n 512 h
