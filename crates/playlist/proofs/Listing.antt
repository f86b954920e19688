-- The whole list: how many programmes its numbers tell, and what is tested of it before the first turn.
use Prim.Native.Nat.{ℕ, ◌*◌, ◌/◌, ◌≤◌}
use mathlib.Core.Path.{◌≡◌, refl, sym, ◌∙◌}
use mathlib.Core.Bool.{Bool, true, false, ◌||◌}
use mathlib.Core.List.{List, [], ◌∷◌}
use native.Mathlib.Omega.{arith}
use lib.Dec.{ltb}
use lib.ListN.{length}
use borrow.Author.Tests.{ltb-false, le-ltb, eq-eqb}
use Rattle.std.specs.Prelude.{Err}
use Rattle.base.proofs.Refusals.{guarded_last}
use Rattle.base.proofs.Tests.{true_both}
use Rattle.format.proofs.Limits.{is_kept, not_true}
use Rattle.playlists.specs.Calls.{programmes, is_list, playlist_call}
use Rattle.playlists.specs.Claims.{IsList}
use Rattle.playlists.proofs.Playlists.{programmes_are, playlist_calls}
use Rattle.header.specs.declared.refusal.Refusal.TheVariants as refusals
use Rattle.playlist.specs.declared.Stopped.TheVariants as o
use Rattle.playlist.specs.Answers.{played, Going, runs}

-- every two numbers tell one
pairs_within : (ns : List ℕ) → 2 * length (programmes ns) ≤ length ns
unfolding programmes
pairs_within [] = omega arith
pairs_within (a ∷ []) = omega arith
pairs_within (a ∷ b ∷ ns) = let k = pairs_within ns in omega (arith, k)

-- what the test of a count tells: where it refuses, the count is not from 1 to m, and where it does not, it is
pub not_among : (n m : ℕ) → (ltb n 1 || ltb m n) ≡ true → 1 ≤ n → n ≤ m → ⊥
not_among n m e h g = let k : (ltb n 1 || ltb m n) ≡ false = rw (le-ltb n 1 h, le-ltb m n g) in not_true (sym k ∙ e)

pub among : (n m : ℕ) → (ltb n 1 || ltb m n) ≡ false → (1 ≤ n) × (n ≤ m)
among n m e = go (ltb n 1) refl (ltb m n) refl e
  where
    go : (s : Bool) → ltb n 1 ≡ s → (t : Bool) → ltb m n ≡ t → (s || t) ≡ false → (1 ≤ n) × (n ≤ m)
    go true p t q e = absurd (not_true (sym e))
    go false p true q e = absurd (not_true (sym e))
    go false p false q e = (ltb-false n 1 p, ltb-false m n q)

module _ (b ns table entries totals : List ℕ) (n : ℕ) (half : n ≡ length ns / 2) where
  told : length (programmes ns) ≡ n
  told = omega (arith, pairs_within ns, (programmes_are ns).all)

  abbrev Answered : Type 0
  Answered = played (Err (o.List refusals.Playlist)) table entries totals ≡ playlist_call b ns table entries totals

  pub list_odd : (length ns ≡ 2 * n → ⊥) → Answered
  unfolding played
  list_odd f = sym ((playlist_calls b ns table entries totals).0 (λ l. f (omega (arith, l.paired, told))))

  pub list_count : (1 ≤ n → n ≤ 64 → ⊥) → Answered
  unfolding played
  list_count f = sym ((playlist_calls b ns table entries totals).0 (λ l. f (omega (arith, l.some_one, told)) (omega (arith, l.few, told))))

  module _ (paired : length ns ≡ 2 * n) (some_one : 1 ≤ n) (few : n ≤ 64) where
    is : IsList ns
    is = record { paired = omega (arith, told); some_one = omega (arith, told, some_one); few = omega (arith, told, few) }

    pub going : Going ns n
    going = record { paired = paired; few = few }

    pub list_runs : runs b ns table entries totals ≡ playlist_call b ns table entries totals
    unfolding runs playlist_call is_list
    list_runs = sym (guarded_last _ _ _ (true_both _ _ (eq-eqb (length ns) (2 * length (programmes ns)) is.paired) (is_kept _ (is.some_one, is.few))))
