-- Room for totals in a list of values, one number after another, and totals of zeros.
use Prim.Native.Nat.{ℕ, zero, suc, ◌+◌, ◌≤◌}
use mathlib.Core.Path.{◌≡◌, refl}
use mathlib.Core.List.{List, [], ◌∷◌}
use native.Mathlib.Omega.{arith}
use lib.ListN.{length, replicate}
use Rattle.std.specs.Prelude.{Some}
use Rattle.interval.specs.declared.Totals as sums
use Rattle.interval.specs.Answers.{totals_of}
use Rattle.values.specs.Lists.{totals_list, totals_values}

-- totals of zeros, over one bucket or two
pub one_zero : (n : ℕ) → 1 ≤ n → n ≤ 2 → (n ≡ 2 → ⊥) → ◌≡◌ {A = List ℕ} (0 ∷ 0 ∷ 0 ∷ 0 ∷ []) (replicate (3 + n) 0)
one_zero zero h k o = absurd (omega arith)
one_zero (suc zero) h k o = refl
one_zero (suc (suc n)) h k o = absurd (omega (arith, o))

pub two_zeros : (n : ℕ) → n ≡ 2 → ◌≡◌ {A = List ℕ} (0 ∷ 0 ∷ 0 ∷ 0 ∷ 0 ∷ []) (replicate (3 + n) 0)
two_zeros n e = rw e refl

-- room for totals, one after another
module _ (t : sums.Totals) {n : ℕ} where
  pub four_room : length (totals_values t) ≤ n → 4 ≤ n
  unfolding totals_values totals_list totals_of
  four_room h = omega arith

  pub five_room : (u : ℕ) → t.unused2 ≡ Some u → length (totals_values t) ≤ n → 5 ≤ n
  unfolding totals_values totals_list totals_of
  five_room u e h = rw e at h

  pub four_room_behind : 2 + length (totals_values t) ≤ n → 6 ≤ n
  unfolding totals_values totals_list totals_of
  four_room_behind h = omega arith

  pub five_room_behind : (u : ℕ) → t.unused2 ≡ Some u → 2 + length (totals_values t) ≤ n → 7 ≤ n
  unfolding totals_values totals_list totals_of
  five_room_behind u e h = rw e at h
