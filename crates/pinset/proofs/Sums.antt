-- The sums over the lines of the job's bytes, one line more.
use Prim.Native.Nat.{ℕ, ◌+◌, ◌<◌}
use mathlib.Core.Path.{◌≡◌, ◌∙◌, ap}
use mathlib.Core.List.{List}
use native.Mathlib.Numerals.{add-one}
use native.Mathlib.Omega.{arith}
use Rattle.model.specs.Pins.{with_line}
use Rattle.format.specs.JobBytes.{Header}
use Rattle.format.specs.Places.{coding_at}
use Rattle.header.specs.declared.Coding.{Coding}
use Rattle.header.specs.Answers.{coding_of}
use Rattle.pinset.specs.declared.Tally.{Tally}
use Rattle.format.specs.Choices.{no_choice, choice_of}
use Rattle.pinning.specs.Check.{codings_in}
use Rattle.pinset.specs.Answers.{tallied, Added}
use Rattle.format.proofs.Choices.{of_mark, of_choice}

module _ (b : List ℕ) (h : Header) (i x : ℕ) (sum : Tally) where
  -- a unit without a pin adds nothing
  pub added_none : x ≡ no_choice → Added b h i x sum sum
  unfolding with_line
  added_none e = record { is = rw (ap choice_of e ∙ of_mark); count = omega arith; size = omega arith; distortion = omega arith }

  -- a pin adds one and the coding that was read
  pub added_pin : (x ≡ no_choice → ⊥) → (c : Coding) → coding_of c ≡ coding_at b h (i + 1) x → c.size < 65536 → c.distortion < 4294967296 → Added b h i x sum (record { count = sum.count + 1; size = sum.size + c.size; distortion = sum.distortion + c.distortion })
  unfolding with_line tallied codings_in coding_of
  added_pin n c e p q = record {
    is = rw (of_choice x n, ← add-one i, ← e);
    count = omega arith;
    size = omega arith;
    distortion = omega arith;
  }
