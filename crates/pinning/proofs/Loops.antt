-- What the loops over the pins say after one byte more.
use Prim.Native.Nat.{ℕ, ◌+◌, ◌<◌, ◌≤◌}
use mathlib.Core.Path.{◌≡◌}
use mathlib.Core.Bool.{true, false}
use mathlib.Core.List.{List}
use native.Mathlib.Numerals.{add-one}
use lib.Dec.{ltb}
use lib.ListN.{length, get_or}
use borrow.Author.Tests.{eq-eqb, ne_eqb, lt-ltb, le-ltb}
use Rattle.model.specs.Job.{Coding}
use Rattle.model.specs.Pins.{PinTotals, with_line, totals_to}
use Rattle.format.specs.JobBytes.{Header}
use Rattle.format.specs.Choices.{no_choice, choice_of}
use Rattle.pinning.specs.PinSet.{lines}
use Rattle.pinning.specs.Check.{pin_fits}
use Rattle.pinning.proofs.Lines.{lines_at}

module _ (h : Header) where
  -- a byte, test by test
  pub fits_none : (i x : ℕ) → x ≡ no_choice → true ≡ pin_fits h i x
  unfolding pin_fits
  fits_none i x e = rw (eq-eqb x no_choice e)

  pub fits_below : (i x : ℕ) → (x ≡ no_choice → ⊥) → i < h.units → ltb x h.choices ≡ pin_fits h i x
  unfolding pin_fits
  fits_below i x e l = rw (ne_eqb x no_choice e, lt-ltb i h.units l)

  pub fits_past : (i x : ℕ) → (x ≡ no_choice → ⊥) → h.units ≤ i → false ≡ pin_fits h i x
  unfolding pin_fits
  fits_past i x e l = rw (ne_eqb x no_choice e, le-ltb i h.units l)

-- one line more
pub lines_more : (codings : ℕ → ℕ → Coding) (n : ℕ) (bytes : List ℕ) (i : ℕ) (s r : PinTotals) → n ≤ length bytes → i < n → s ≡ totals_to codings (lines n bytes) i → r ≡ with_line (codings i) (choice_of (get_or bytes i 0)) s → r ≡ totals_to codings (lines n bytes) (i + 1)
unfolding totals_to
lines_more codings n bytes i s r h l e f = rw (add-one, lines_at n bytes i h l, ← e) f
