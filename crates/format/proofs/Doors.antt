-- Limits on a value that was read, looked at before anything else is: a header's drains, by either door.
use Prim.Native.Nat.{ℕ, zero, suc, ◌≤◌, ◌<◌}
use mathlib.Core.Path.{◌≡◌, refl, sym, ◌∙◌}
use mathlib.Core.Option.{Option, none, some}
use mathlib.Core.List.{List, [], ◌∷◌}
use native.Mathlib.Omega.{arith}
use native.Mathlib.Nat.{add-zero}
use native.Mathlib.Decide.{dec_lt}
use lib.ListN.{length, get_or, drop}
use Rattle.format.specs.Limits.{AllKept, broken}
use Rattle.format.specs.Parser.{refused, took, unless_refused}
use Rattle.format.specs.JobBytes.{Policed, Header, no_bucket, Door, opening, archive, drain_limits, header_read, draining, header_parser}
use Rattle.format.specs.Claims.{DrainOrder}
use Rattle.format.proofs.Limits.{AllOf, none_broken, all_kept, broken_one}
use Rattle.format.proofs.Parsing.{not_took, bind_refused, bind_took, bind_later, bound}

-- the drains of a door
pub drains_number : (d : Door) (ks : List Policed) → AllOf 17 (drain_limits d ks)
drains_number archive ks = tt
drains_number opening [] = tt
drains_number opening (k ∷ ks) = (refl, drains_number opening ks)

-- a header that a door takes
pub draining_took : (d : Door) (h : Header) (b : List ℕ) → AllKept (drain_limits d h.buckets) → draining d h b ≡ took h 0
unfolding draining unless_refused
draining_took d h b k = rw (none_broken (drain_limits d h.buckets) k)

pub draining_refused : (d : Door) (h : Header) (b : List ℕ) → (AllKept (drain_limits d h.buckets) → ⊥) → draining d h b ≡ refused 17
unfolding draining unless_refused
draining_refused d h b f = rw (broken_one 17 (drain_limits d h.buckets) (drains_number d h.buckets) f)

-- and back
pub draining_is : (d : Door) (h : Header) (b : List ℕ) (x : Header) (n : ℕ) → draining d h b ≡ took x n → (x ≡ h) × (n ≡ 0) × AllKept (drain_limits d h.buckets)
unfolding draining
draining_is d h b x n e = go (broken (drain_limits d h.buckets)) refl e
  where
    go : (o : Option ℕ) → broken (drain_limits d h.buckets) ≡ o → unless_refused o (took h 0) ≡ took x n → (x ≡ h) × (n ≡ 0) × AllKept (drain_limits d h.buckets)
    go none q r = unfold unless_refused in (cc, cc, all_kept (drain_limits d h.buckets) q)
    go (some m) q r = unfold unless_refused in not_took r

-- drains one by one, and all of them
pub none_idle : (ks : List Policed) → AllKept (drain_limits opening ks) → (i : ℕ) → i < length ks → 1 ≤ (get_or ks i no_bucket).drain
none_idle [] a i h = absurd (omega arith)
none_idle (k ∷ ks) a zero h = omega arith
none_idle (k ∷ ks) a (suc i) h = none_idle ks a.1 i (omega arith)

pub all_drain : (ks : List Policed) → ((i : ℕ) → i < length ks → (get_or ks i no_bucket).drain ≤ 4095) → ((i : ℕ) → i < length ks → 1 ≤ (get_or ks i no_bucket).drain) → AllKept (drain_limits opening ks)
all_drain [] m f = tt
all_drain (k ∷ ks) m f = ((f 0 (omega arith), m 0 (omega arith)), all_drain ks (λ i h. m (suc i) (omega arith)) (λ i h. f (suc i) (omega arith)))

-- one that is 0, or none
pub idle_or : (ks : List Policed) → ((i : ℕ) → i < length ks → (get_or ks i no_bucket).drain ≡ 0 → ⊥) → (i : ℕ) → i < length ks → 1 ≤ (get_or ks i no_bucket).drain
idle_or ks f i h = go (dec_lt 0 (get_or ks i no_bucket).drain)
  where
    go : Dec (0 < (get_or ks i no_bucket).drain) → 1 ≤ (get_or ks i no_bucket).drain
    go (yes q) = q
    go (no q) = absurd (f i h (omega arith))

module _ (b : List ℕ) (most : (h : Header) (k : ℕ) → header_read b ≡ took h k → (i : ℕ) → i < length h.buckets → (get_or h.buckets i no_bucket).drain ≤ 4095) where
  pub drain_order : DrainOrder b
  unfolding header_parser
  drain_order = record {
    record_first = λ d n e. bind_refused header_read (draining d) b n e;
    then_drains = λ h k e i. bind_later header_read (draining opening) b h k 17 e (draining_refused opening h (drop k b) (λ a. let q = none_idle h.buckets a i.0 i.1 in omega (arith, i.2)));
    else_opening = λ h k e f. bind_took header_read (draining opening) b h k h 0 e (draining_took opening h (drop k b) (all_drain h.buckets (most h k e) (idle_or h.buckets (λ i l q. f (i, l, q))))) ∙ rw add-zero;
    archive_takes = λ h k e. bind_took header_read (draining archive) b h k h 0 e (draining_took archive h (drop k b) tt) ∙ rw add-zero;
  }

-- what a door reads as a header
pub record HeaderBy (d : Door) (b : List ℕ) (h : Header) (n : ℕ) : Type 0 where
  pub read : header_read b ≡ took h n
  pub drains : AllKept (drain_limits d h.buckets)

pub header_by : (d : Door) (b : List ℕ) (h : Header) (n : ℕ) → header_parser d b ≡ took h n → HeaderBy d b h n
unfolding header_parser
header_by d b h n e =
    let x = bound header_read (draining d) b h n e in
    let z = draining_is d x.value (drop x.size b) h x.more x.second in
    let s : x.size ≡ n = omega (arith, x.sizes, z.1) in
    told x.value x.size (sym z.0) s x.first z.2
  where
    told : (v : Header) (k : ℕ) → v ≡ h → k ≡ n → header_read b ≡ took v k → AllKept (drain_limits d v.buckets) → HeaderBy d b h n
    told v k p q e a = record { read = e ∙ cc; drains = rw p at a }

pub by_header : (d : Door) (b : List ℕ) (h : Header) (n : ℕ) → HeaderBy d b h n → header_parser d b ≡ took h n
unfolding header_parser
by_header d b h n x = bind_took header_read (draining d) b h n h 0 x.read (draining_took d h (drop n b) x.drains) ∙ rw add-zero
