-- One programme after another: what is kept from turn to turn, the programme whose turn it is, and how the list ends.
use Prim.Native.Nat.{ℕ, zero, suc, ◌+◌, ◌*◌, ◌≤◌, ◌<◌}
use mathlib.Core.Path.{◌≡◌, refl, sym, ap, ◌∙◌}
use mathlib.Core.List.{List, [], ◌∷◌}
use native.Mathlib.Omega.{arith}
use lib.ListN.{length, get_or, drop, drop_of_length-le}
use Rattle.std.specs.Prelude.{Result, Ok, Err, None}
use Rattle.header.specs.declared.refusal.Refusal.{Refusal}
use Rattle.header.specs.Refusals.{number}
use Rattle.playlists.specs.Calls as calls
use Rattle.playlists.specs.Calls.{Programme, programmes, Standing, at_first, stops, goes_on, refused_at, ended, onward, play}
use Rattle.playlists.proofs.Turns.{turn_room}
use Rattle.playlist.specs.declared.Standing as code
use Rattle.playlist.specs.declared.Stopped.TheVariants as o
use Rattle.playlist.specs.Answers.{played, programme, carries, stands, turned, Room, Going, runs}

-- the programmes of so many pairs of numbers
pub paired_count : (ns : List ℕ) (n : ℕ) → length ns ≡ 2 * n → length (programmes ns) ≡ n
unfolding programmes
paired_count [] n e = omega (arith, e)
paired_count (a ∷ []) n e = absurd (omega (arith, e))
paired_count (a ∷ b ∷ ns) zero e = absurd (omega (arith, e))
paired_count (a ∷ b ∷ ns) (suc n) e = let k = paired_count ns n (omega (arith, e)) in omega (arith, k)

paired_next : (ns : List ℕ) (n i : ℕ) → length ns ≡ 2 * n → i < n → drop i (programmes ns) ≡ programme (get_or ns (2 * i) 0) (get_or ns (2 * i + 1) 0) ∷ drop (suc i) (programmes ns)
unfolding programmes
paired_next [] n i e h = absurd (omega (arith, e, h))
paired_next (a ∷ []) n i e h = absurd (omega (arith, e))
paired_next (a ∷ b ∷ ns) n zero e h = refl
paired_next (a ∷ b ∷ ns) zero (suc i) e h = absurd (omega (arith, e))
paired_next (a ∷ b ∷ ns) (suc n) (suc i) e h =
    let x : 2 * suc i ≡ suc (suc (2 * i)) = omega arith in
    let y : 2 * suc i + 1 ≡ suc (suc (2 * i + 1)) = omega arith in
    rw (y, x) (paired_next ns n i (omega (arith, e)) (omega (arith, h)))

-- before the turn of programme `at`
pub record Running (b ns table₀ entries₀ totals₀ : List ℕ) (at : ℕ) (s : code.Standing) (table entries totals : List ℕ) : Type 0 where
  pub done : s.done ≡ at
  pub used : s.used ≤ length entries
  pub entries_size : length entries ≡ length entries₀
  pub totals_size : length totals ≡ length totals₀
  pub plays : runs b ns table₀ entries₀ totals₀ ≡ play b (drop at (programmes ns)) (stands s table entries totals)

pub running_first : (b ns table entries totals : List ℕ) → Running b ns table entries totals 0 (record { done = 0; used = 0; levels = None }) table entries totals
unfolding runs at_first stands carries
running_first b ns table entries totals = record { done = refl; used = omega arith; entries_size = refl; totals_size = refl; plays = refl }

module _ (b ns table₀ entries₀ totals₀ : List ℕ) (count : ℕ) (g : Going ns count) (at : ℕ) (s : code.Standing) (table entries totals : List ℕ) (r : Running b ns table₀ entries₀ totals₀ at s table entries totals) where
  abbrev now : Standing
  now = stands s table entries totals

  pub running_end : count ≤ at → played (Ok tt) table entries totals ≡ runs b ns table₀ entries₀ totals₀
  unfolding played play ended stands
  running_end h = sym (r.plays ∙ rw (drop_of_length-le (programmes ns) {i = at} (omega (arith, paired_count ns count g.paired))))

  module _ (h : at < count) where
    pub running_room : Room s entries
    running_room = record { used = r.used; few = omega (arith, r.done, g.few) }

    abbrev here : Programme
    here = programme (get_or ns (2 * at) 0) (get_or ns (2 * at + 1) 0)

    comes : runs b ns table₀ entries₀ totals₀ ≡ onward (calls.turn b here now) (λ n. play b (drop (suc at) (programmes ns)) n)
    comes = r.plays ∙ ap (λ (ps : List Programme). play b ps now) (paired_next ns count at g.paired h) ∙ unfold play in refl

    module _ (x : Result code.Standing Refusal) (table' entries' totals' : List ℕ) (e : turned x s table' entries' totals' ≡ calls.turn b here now) where
      pub running_stop : (n : Refusal) (place : ℕ) → x ≡ Err n → place ≡ at + 1 → played (Err (o.Programme place n)) table' entries' totals' ≡ runs b ns table₀ entries₀ totals₀
      unfolding turned
      running_stop n place q c =
          let k : stops (number n) (stands s table' entries' totals') ≡ calls.turn b here now = (rw q at e) in
          sym (comes ∙ rw (← k) (unfold onward ended stands played in ap (λ (d : ℕ). record { answer = refused_at d (number n); table = table'; entries = entries'; totals = totals' }) (omega (arith, r.done, c))))

      module _ (next : code.Standing) (q : x ≡ Ok next) where
        went : calls.turn b here now ≡ goes_on (stands next table' entries' totals')
        unfolding turned
        went = sym (rw q at e)

        pub running_on : Running b ns table₀ entries₀ totals₀ (at + 1) next table' entries' totals'
        unfolding stands
        running_on =
            let k = turn_room b here now (stands next table' entries' totals') r.used went in
            let y : at + 1 ≡ suc at = omega arith in
            record {
              done = omega (arith, k.0, r.done);
              used = k.1;
              entries_size = k.2 ∙ r.entries_size;
              totals_size = k.3 ∙ r.totals_size;
              plays = comes ∙ rw (went, y) (unfold onward in refl);
            }
