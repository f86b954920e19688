-- What refuses a job to be written, test by test, and that the counts of a header fit.
use Prim.Native.Nat.{ℕ, ◌+◌, ◌*◌, ◌<◌, ◌≤◌}
use mathlib.Core.Path.{◌≡◌, sym, ◌∙◌}
use mathlib.Core.Option.{none, some}
use mathlib.Core.List.{List, []}
use native.Mathlib.Nat.{mul-le-mul}
use native.Mathlib.Omega.{arith}
use mir.Syntax.{w64}
use mir.Val.{Fits}
use lib.ListN.{length}
use borrow.Author.Tests.{lt-leb, le-leb}
use Rattle.base.specs.Refusals.{refusal}
use Rattle.base.proofs.Refusals.{refusal_here, refusal_last, unless_some, unless_none}
use Rattle.format.specs.Limits.{broken}
use Rattle.format.specs.JobBytes.{Header, encode}
use Rattle.format.specs.Places.{job_size}
use Rattle.format.proofs.Limits.{all_kept}
use Rattle.writing.specs.Lists.{job_from}
use Rattle.writing.specs.Calls.{write_limits, room_tests, write_refusal}
use Rattle.writing.proofs.Refusals.{size_given}

-- a header's counts multiplied, and added to others, fit 64 bits
pub sum_fits : (s a b : ℕ) → s ≤ 200000 → a ≤ 65535 → b ≤ 400000 → Fits w64 (s + a * b)
sum_fits s a b g h k = let small : a * b ≤ 65535 * 400000 = mul-le-mul {n₂ = 65535} {m₂ = 400000} h k in record { fits = omega arith }

pub product_fits : (a b : ℕ) → a ≤ 65535 → b ≤ 400000 → Fits w64 (a * b)
product_fits a b h k = let f = sum_fits 0 a b (omega arith) h k in record { fits = omega (arith, f.fits) }

-- the verdict before writing: the limits, then the room
module _ (h : Header) (rates sizes distortions : List ℕ) (out : ℕ) where
  pub limits_refuse : (n : ℕ) → some n ≡ broken (write_limits h rates sizes distortions) → some n ≡ write_refusal h rates sizes distortions out
  unfolding write_refusal
  limits_refuse n e = sym (unless_some some (broken (write_limits h rates sizes distortions)) n _ (sym e))

  module _ (e : none ≡ broken (write_limits h rates sizes distortions)) where
    room_decides : write_refusal h rates sizes distortions out ≡ refusal (room_tests (job_from h rates sizes distortions) out)
    unfolding write_refusal
    room_decides = unless_none some (broken (write_limits h rates sizes distortions)) _ (sym e)

    size_is : length (encode (job_from h rates sizes distortions)) ≡ job_size h
    size_is = size_given h rates sizes distortions [] (all_kept _ (sym e))

    pub room_refuses : out < job_size h → some 12 ≡ write_refusal h rates sizes distortions out
    unfolding room_tests
    room_refuses l = sym (room_decides ∙ refusal_here _ _ (lt-leb (length (encode (job_from h rates sizes distortions))) out (omega (arith, size_is))))

    pub all_fits : job_size h ≤ out → none ≡ write_refusal h rates sizes distortions out
    unfolding room_tests
    all_fits l = sym (room_decides ∙ refusal_last _ (le-leb (length (encode (job_from h rates sizes distortions))) out (omega (arith, size_is))))
