-- There is room for the levels of every interval: at most three an interval, and at most 576 intervals.
use Prim.Native.Nat.{ℕ, suc, ◌+◌, ◌*◌, ◌<◌, ◌≤◌}
use mathlib.Core.Path.{◌≡◌}
use mathlib.Core.List.{◌∷◌}
use native.Mathlib.Nat.{mul-suc, mul-le-mul}
use native.Mathlib.Omega.{arith}
use lib.ListN.{length}
use Rattle.std.specs.Prelude.{Some, None}
use Rattle.std.specs.Prelude as std
use Rattle.header.specs.declared.Bucket.{Bucket}
use Rattle.header.specs.declared.Header.{Header}
use Rattle.header.specs.Answers.{policed_of, further, plain}

pub few_each : (h : Header) (each : ℕ) → each ≡ suc (length (plain h).buckets) → each ≤ 3
unfolding plain
few_each h each e = go h.second e
  where
    go : (o : std.Option Bucket) → each ≡ suc (length (policed_of h.first ∷ further o)) → each ≤ 3
    go (Some k) e = omega arith
    go None e = omega arith

pub levels_most : (each place total : ℕ) → each ≤ 3 → place < total → total ≤ 576 → each * place + each ≤ 1728
levels_most each place total h k l = let m : each * suc place ≤ 1728 = mul-le-mul {n₂ = 3} {m₂ = 576} h (omega arith) in omega (arith, mul-suc each place)
