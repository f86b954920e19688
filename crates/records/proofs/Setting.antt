-- Bytes written one after another from a place on: what is written first, and what is left to write.
use Prim.Native.Nat.{ℕ, suc, ◌+◌, ◌-◌, ◌<◌, ◌≤◌}
use mathlib.Core.Path.{◌≡◌, refl, sym, ◌∙◌}
use mathlib.Core.List.{List}
use native.Mathlib.Omega.{arith}
use native.Mathlib.Numerals.{add-one}
use lib.ListN.{length, get_or, drop, replicate}
use lib.Seq.{drop-cons}
use Rattle.model.specs.Job.{Coding, nothing}
use Rattle.format.specs.Fields.{bytes, spelled}
use Rattle.format.specs.JobBytes.{unit_values, entry_widths}
use Rattle.format.proofs.Spelling.{bytes_length}
use Rattle.fields.specs.Written.{put_at}
use Rattle.fields.proofs.Setting.{put_next, put_nothing}

-- numbers: those from the i-th on are left to write from a place on
module _ (numbers : List ℕ) where
  unfoldable pub numbers_left : List ℕ → ℕ → ℕ → List ℕ
  numbers_left l place i = put_at l place (spelled (replicate (length numbers - i) 2) (drop i numbers))

  pub numbers_start : (l : List ℕ) (place : ℕ) → numbers_left l place 0 ≡ put_at l place (spelled (replicate (length numbers) 2) numbers)
  unfolding numbers_left
  numbers_start l place = let e : length numbers - 0 ≡ length numbers = omega arith in rw e

  pub numbers_step : (l m : List ℕ) (place i : ℕ) → i < length numbers → m ≡ put_at l place (bytes 2 (get_or numbers i 0)) → numbers_left m (place + 2) (i + 1) ≡ numbers_left l place i
  unfolding numbers_left spelled
  numbers_step l m place i h q =
      let e : length numbers - i ≡ suc (length numbers - (i + 1)) = omega arith in
      rw (q, e, drop-cons numbers i 0 h, add-one i) (sym (put_next l place 2 (place + 2) (bytes 2 (get_or numbers i 0)) _ (bytes_length 2 (get_or numbers i 0)) refl))

  pub numbers_end : (l : List ℕ) (place i : ℕ) → length numbers ≤ i → numbers_left l place i ≡ l
  unfolding numbers_left spelled
  numbers_end l place i h = let e : length numbers - i ≡ 0 = omega arith in rw e (put_nothing l place)

-- codings
module _ (cs : List Coding) where
  unfoldable pub codings_left : List ℕ → ℕ → ℕ → List ℕ
  codings_left l place x = put_at l place (spelled (entry_widths (length cs - x)) (unit_values (drop x cs)))

  pub codings_start : (l : List ℕ) (place : ℕ) → codings_left l place 0 ≡ put_at l place (spelled (entry_widths (length cs)) (unit_values cs))
  unfolding codings_left
  codings_start l place = let e : length cs - 0 ≡ length cs = omega arith in rw e

  pub codings_step : (l m n : List ℕ) (place x : ℕ) → x < length cs → (s d : ℕ) → get_or cs x nothing ≡ record { size = s; distortion = d } → m ≡ put_at l place (bytes 2 s) → n ≡ put_at m (place + 2) (bytes 4 d) → codings_left n (place + 6) (x + 1) ≡ codings_left l place x
  unfolding codings_left spelled entry_widths unit_values
  codings_step l m n place x h s d q f g =
      let e : length cs - x ≡ suc (length cs - (x + 1)) = omega arith in
      rw (g, f, e, drop-cons cs x nothing h, q, add-one x)
      (sym (put_next l place 2 (place + 2) (bytes 2 s) _ (bytes_length 2 s) refl
      ∙ put_next (put_at l place (bytes 2 s)) (place + 2) 4 (place + 6) (bytes 4 d) _ (bytes_length 4 d) (omega arith)))

  pub codings_end : (l : List ℕ) (place x : ℕ) → length cs ≤ x → codings_left l place x ≡ l
  unfolding codings_left spelled entry_widths
  codings_end l place x h = let e : length cs - x ≡ 0 = omega arith in rw e (put_nothing l place)
