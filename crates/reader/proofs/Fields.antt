-- How many fields a header has, with one bucket and with two, and how many codings a job.
use Prim.Native.Nat.{ℕ, ◌*◌, ◌≤◌}
use mathlib.Core.Path.{◌≡◌, refl}
use Rattle.std.specs.Prelude.{Some, None}
use native.Mathlib.Omega.{arith}
use native.Mathlib.Nat.{mul-le-mul}
use mir.Syntax.{w64}
use mir.Val.{Fits}
use lib.ListN.{length}
use Rattle.format.specs.JobBytes.{bucket_values, nine_values, header_values}
use Rattle.header.specs.declared.Bucket.{Bucket}
use Rattle.header.specs.declared.Header as code
use Rattle.header.specs.Answers.{plain}

module _ (h : code.Header) where
  pub two_fields : (k : Bucket) → h.second ≡ Some k → 12 ≡ length (header_values (plain h))
  unfolding plain header_values nine_values bucket_values
  two_fields k e = rw e refl

  pub one_fields : h.second ≡ None → 9 ≡ length (header_values (plain h))
  unfolding plain header_values nine_values bucket_values
  one_fields e = rw e refl

  -- room for all of them is room for the nine, and with two buckets for twelve
  pub nine_room : (n : ℕ) → length (header_values (plain h)) ≤ n → 9 ≤ n
  unfolding header_values nine_values
  nine_room n l = omega arith

  pub twelve_room : (n : ℕ) (k : Bucket) → h.second ≡ Some k → length (header_values (plain h)) ≤ n → 12 ≤ n
  twelve_room n k e l = omega (arith, two_fields k e)

-- a product of two numbers of two bytes
pub product_fits : (a b : ℕ) → a ≤ 65535 → b ≤ 65535 → Fits w64 (a * b)
product_fits a b h k = let l : a * b ≤ 65535 * 65535 = mul-le-mul {n₂ = 65535} {m₂ = 65535} h k in record { fits = omega arith }
