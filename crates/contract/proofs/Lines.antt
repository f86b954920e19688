-- The line under a contract: its rates at the head of an array, and its buckets within their limits.
use Prim.Native.Nat.{ℕ, zero, suc, ◌+◌, ◌≤◌, ◌<◌}
use mathlib.Core.Path.{◌≡◌, refl, sym, ◌∙◌, ap, ap₂, subst}
use mathlib.Core.Bool.{Bool}
use mathlib.Core.List.{List, [], ◌∷◌, ◌++◌, map}
use native.Mathlib.Omega.{arith}
use lib.ListN.{length, get_or, take, drop, length-append, length-drop}
use lib.Seq.{take_at, get_or-take}
use Rattle.std.specs.Prelude.{if◌then◌else◌}
use Rattle.std.specs.Prelude.{Some, None}
use Rattle.std.specs.Prelude as std
use Rattle.std.specs.Option.{is_some, option_map, option_to_list}
use Rattle.model.specs.Job as model
use Rattle.format.specs.Limits.{AllKept}
use Rattle.format.specs.JobBytes.{Policed, largest_sizes, bucket_limits, rate_limits, bucket_of}
use Rattle.format.proofs.Limits.{all_fit}
use Rattle.header.specs.declared.Bucket.{Bucket}
use Rattle.header.specs.declared.Header.{Header}
use Rattle.header.specs.Answers.{extra, further, policed_of, plain}
use Rattle.interval.specs.declared.Policer.{Policer}
use Rattle.interval.specs.Answers.{bucket_is, line_of}
use Rattle.line.specs.Answers.{line_is}
use Rattle.changing.specs.NewContract.{policed_under, contract_limits}
use Rattle.contract.specs.Answers.{contract, Offered, LineUnder}
use Rattle.contract.proofs.Buckets.{bucket_in, buckets_are, second_is, Counted}

-- the rates stand in front of what is left of the array
pub rates_first : (rates w l : List ℕ) → w ≡ rates → length rates ≤ length l → (length (w ++ drop (length rates) l) ≡ length l) × (take (length rates) (w ++ drop (length rates) l) ≡ rates)
rates_first rates w l e h = rw e (omega (arith, length-append rates (drop (length rates) l), length-drop (length rates) l), take_at rates _ _ refl)

-- rates that rise are at most 4,095
low_rates : (low : ℕ) (rs : List ℕ) → AllKept (rate_limits low rs) → (y : ℕ) → y < length rs → get_or rs y 0 ≤ 4095
low_rates low [] k y h = absurd (omega arith)
low_rates low (r ∷ rs) k zero h = omega arith
low_rates low (r ∷ rs) k (suc y) h = low_rates (suc r) rs k.1 y (omega arith)

-- what 3 asks of the counts
pub header_buckets : (h : Header) → length (plain h).buckets ≡ 1 + extra (is_some h.second)
unfolding plain extra
header_buckets h = go h.second
  where
    go : (o : std.Option Bucket) → length (policed_of h.first ∷ further o) ≡ 1 + (if is_some o then 1 else 0)
    go (Some k) = refl
    go None = refl

pub counted : (h : Header) (rates sizes drains : List ℕ) → Offered (plain h) (contract rates sizes drains) → Counted (is_some h.second) rates sizes drains
unfolding contract_limits
counted h rates sizes drains o =
    let k = all_fit _ o.limits in
    let n = header_buckets h in
    record { sizes_count = omega (arith, k.0); drains_count = omega (arith, k.1.0); some = omega (arith, k.1.1.0); few = omega (arith, k.1.1.0) }

-- the buckets that were read are the contract's, and within the limits of buffers
module _ (two : Bool) (rates sizes drains : List ℕ) (t : Counted two rates sizes drains) where
  abbrev Under : List Policed
  Under = policed_under (contract rates sizes drains)

  under_is : Under ≡ bucket_in sizes drains 0 ∷ drop 1 (policed_under (contract rates sizes drains))
  under_is =
      buckets_are two rates sizes drains t.sizes_count t.drains_count
      ∙ ap (λ (ks : List Policed). bucket_in sizes drains 0 ∷ ks) (second_is two rates sizes drains t.sizes_count t.drains_count)

second_in : (c : Policer) (ks : List Policed) (k : Policed) → bucket_is c ∷ [] ≡ map bucket_of ks → AllKept (bucket_limits largest_sizes (k ∷ ks)) → (c.size ≤ 63) × (c.drain ≤ 4095)
unfolding bucket_of
second_in c [] k e a = absurd (omega (arith, ap length e))
second_in c (l ∷ ls) k e a =
    let m : bucket_is c ≡ bucket_of l = cc in
    (omega (arith, ap (λ (b : model.Bucket). b.size) m), omega (arith, ap (λ (b : model.Bucket). b.drain) m))

pub line_made : (h : Header) (rates sizes drains list : List ℕ) (first : Policer) (second : std.Option Policer) → Offered (plain h) (contract rates sizes drains) → bucket_is first ≡ bucket_of (bucket_in sizes drains 0) → option_to_list (option_map bucket_is second) ≡ map bucket_of (drop 1 (policed_under (contract rates sizes drains))) → length list ≡ 16 → take (length rates) list ≡ rates → LineUnder (plain h) (contract rates sizes drains) (record {
  buffers = record { decoder = h.decoder; first = first; second = second };
  count = length rates;
  rates = list;
})
unfolding plain line_is line_of bucket_of contract_limits
line_made h rates sizes drains list first second o p q n r =
    let t = counted h rates sizes drains o in
    let k = all_fit _ o.limits in
    let e = under_is _ rates sizes drains t in
    let a : AllKept (bucket_limits largest_sizes (bucket_in sizes drains 0 ∷ drop 1 (policed_under (contract rates sizes drains)))) = subst (λ (ps : List Policed). AllKept (bucket_limits largest_sizes ps)) e k.1.1.1 in
    record {
      is =
          ap₂ (λ (b : model.Bucket) (bs : List model.Bucket). record { decoder = h.decoder; buckets = b ∷ bs; rates = take (length rates) list }) p q
          ∙ ap₂ (λ (ks : List Policed) (rs : List ℕ). record { decoder = h.decoder; buckets = map bucket_of ks; rates = rs }) (sym e) r;
      fits = record {
        buffers = record {
          decoder = o.decoder;
          bucket = omega (arith, ap (λ (b : model.Bucket). b.size) p, a.0.1);
          drain = omega (arith, ap (λ (b : model.Bucket). b.drain) p, a.1.0.1);
          second = λ b s. second_in b _ _ (rw s at q) a;
        };
        rates = t.few;
        rate = λ y l. rw (← get_or-take (length rates) list y 0 l, r) (low_rates 0 rates (all_fit _ o.rising) y l);
        size = n;
      };
    }
