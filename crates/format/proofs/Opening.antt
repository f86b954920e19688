-- In which order a job's bytes are refused: `Refusals`.
use Prim.Native.Nat.{ℕ, zero, suc, ◌+◌, ◌*◌, ◌≤◌, ◌<◌}
use mathlib.Core.Path.{◌≡◌, refl, ap, ◌∙◌}
use mathlib.Core.List.{List, [], ◌∷◌}
use mathlib.Core.Logic.{◌⊎◌}
use native.Mathlib.Omega.{arith}
use native.Mathlib.Nat.{add-zero}
use lib.ListN.{length, get_or, take, drop}
use lib.Seq.{drop-drop}
use Rattle.model.specs.Job.{Coding}
use Rattle.format.specs.Fields.{number, fields}
use Rattle.format.specs.Limits.{AllKept}
use Rattle.format.specs.Parser.{refused, took, done, many}
use Rattle.format.specs.Records.{record_due, record_either}
use Rattle.format.specs.JobBytes.{Policed, Header, policed_by, largest_sizes, bucket_limits, header_limits, rate_limits, coding_limits, header_of, codings, bucket_widths, header_kind, header_form, rates_form, unit_form, job_of, header_parser, unit_parser, parse, no_bucket, Door, header_read}
use Rattle.format.specs.Claims.{u16_at, Due, one_bucket_at, two_buckets_at, RecordOrders, Units, no_more, one_more, OpeningOrder, Refusals}
use Rattle.format.proofs.Fields.{two_at}
use Rattle.format.proofs.Limits.{AllOf}
use Rattle.format.proofs.Header.{header_from, header_fields, header_known}
use Rattle.format.proofs.Records.{total_same, total_entries}
use Rattle.format.proofs.Parsing.{bind_refused, bind_took, bind_later}
use Rattle.format.proofs.Orders.{due_order, head_mapped, body_mapped, mapped, revalued}
use Rattle.format.proofs.Either.{either_head, first_body, second_body}
use Rattle.format.proofs.RoundTrip.{header_total, kinds_apart}
use Rattle.format.proofs.Doors.{drain_order}
use Rattle.format.proofs.Places.{read_kept}

-- the header's fields by their places
module _ (b : List ℕ) where
  there : (n at : ℕ) → 4 + n ≤ length b → at + 2 ≤ n → number (take 2 (drop at (drop 4 b))) ≡ u16_at b (4 + at)
  there n at h l = ap (λ (c : List ℕ). number (take 2 c)) (drop-drop at 4 b) ∙ two_at b (4 + at) (omega arith)

  first_nine : (n : ℕ) (more : List Policed) → 4 + n ≤ length b → 18 ≤ n → header_from (λ at. number (take 2 (drop at (drop 4 b)))) more ≡ header_from (λ at. u16_at b (4 + at)) more
  first_nine n more h l = header_known _ _ more (λ i k. there n (2 * i) h (omega arith))

  one_is : 22 ≤ length b → header_of (fields (header_form 0).widths (drop 4 b)) ≡ one_bucket_at b
  unfolding header_from bucket_widths fields policed_by
  one_is h = header_fields 0 (drop 4 b) ∙ first_nine 18 [] h (omega arith)

  two_is : 28 ≤ length b → header_of (fields (header_form 1).widths (drop 4 b)) ≡ two_buckets_at b
  unfolding header_from bucket_widths fields policed_by
  two_is h =
      let t : (at : ℕ) → at + 2 ≤ 24 → number (take 2 (drop at (drop 4 b))) ≡ u16_at b (4 + at) = λ at l. there 24 at h l in
      let d : number (take 2 (drop 2 (drop 18 (drop 4 b)))) ≡ u16_at b 24 = ap (λ (c : List ℕ). number (take 2 c)) (drop-drop 2 18 (drop 4 b)) ∙ t 20 (omega arith) in
      let l : number (take 2 (drop 2 (drop 2 (drop 18 (drop 4 b))))) ≡ u16_at b 26 = ap (λ (c : List ℕ). number (take 2 c)) (drop-drop 2 2 (drop 18 (drop 4 b)) ∙ drop-drop 4 18 (drop 4 b)) ∙ t 22 (omega arith) in
      header_fields 1 (drop 4 b)
      ∙ first_nine 24 _ h (omega arith)
      ∙ ap (header_from (λ at. u16_at b (4 + at))) (λ k. record { size = (t 18 (omega arith)) k; drain = d k; fill = l k } ∷ [])

-- buckets within their limits have a drain of at most 4,095
pub kept_drains : (ss : List ℕ) (ks : List Policed) → AllKept (bucket_limits ss ks) → length ks ≤ length ss → (i : ℕ) → i < length ks → (get_or ks i no_bucket).drain ≤ 4095
kept_drains [] ks a l i h = absurd (omega arith)
kept_drains (s ∷ ss) [] a l i h = absurd (omega arith)
kept_drains (s ∷ ss) (k ∷ ks) a l zero h = omega arith
kept_drains (s ∷ ss) (k ∷ ks) a l (suc i) h = kept_drains ss ks a.1.1.1 (omega arith) i (omega arith)

-- the limits of each record have one number
buckets_number : (ss : List ℕ) (ks : List Policed) → AllOf 3 (bucket_limits ss ks)
buckets_number [] ks = tt
buckets_number (s ∷ ss) [] = tt
buckets_number (s ∷ ss) (k ∷ ks) = (refl, (refl, (refl, buckets_number ss ks)))

pub header_number : (h : Header) → AllOf 3 (header_limits h)
header_number h = (refl, (refl, (refl, (refl, (refl, (refl, (refl, buckets_number largest_sizes h.buckets)))))))

pub rates_number : (low : ℕ) (rs : List ℕ) → AllOf 4 (rate_limits low rs)
rates_number low [] = tt
rates_number low (r ∷ rs) = (refl, rates_number _ rs)

pub codings_number : (u : List Coding) → AllOf 5 (coding_limits u)
codings_number [] = tt
codings_number (c ∷ u) = (refl, (refl, codings_number u))

pub form_number : (n : ℕ) (vs : List ℕ) → AllOf 3 ((header_form n).limits vs)
unfolding header_form
form_number n vs = header_number (header_of vs)

-- a header that was read keeps to its limits
drain_most : (b : List ℕ) (h : Header) (k : ℕ) → header_read b ≡ took h k → (i : ℕ) → i < length h.buckets → (get_or h.buckets i no_bucket).drain ≤ 4095
drain_most b h k e = kept_drains largest_sizes h.buckets (read_kept b h k e).1.1.1.1.1.1.1 (omega (arith, read_kept b h k e))

record_orders : (b : List ℕ) → RecordOrders b
unfolding header_read unit_parser header_form header_kind rates_form unit_form
record_orders b = record {
  header = record {
    head = head_mapped (record_either (header_form 0) (header_form 1)) (λ r. header_of r.values) (Due 1 18 b ⊎ Due 8 24 b) b (either_head (header_form 0) (header_form 1) kinds_apart 18 24 3 3 (header_total 0) (header_total 1) (form_number 0) (form_number 1) b);
    one = revalued header_read 1 18 3 _ one_bucket_at (λ h. AllKept (header_limits h)) b (one_is b) (body_mapped (record_either (header_form 0) (header_form 1)) (λ r. header_of r.values) 1 18 3 _ (λ h. AllKept (header_limits h)) b (first_body (header_form 0) (header_form 1) kinds_apart 18 24 3 3 (header_total 0) (header_total 1) (form_number 0) (form_number 1) b));
    two = revalued header_read 8 24 3 _ two_buckets_at (λ h. AllKept (header_limits h)) b (two_is b) (body_mapped (record_either (header_form 0) (header_form 1)) (λ r. header_of r.values) 8 24 3 _ (λ h. AllKept (header_limits h)) b (second_body (header_form 0) (header_form 1) kinds_apart 18 24 3 3 (header_total 0) (header_total 1) (form_number 0) (form_number 1) b));
  };
  drains = drain_order b (drain_most b);
  rates = λ p. due_order (rates_form p) (2 * p) 4 (total_same p 2) (rates_number 0) b;
  unit = λ m. mapped (record_due (unit_form m)) codings 3 (6 * m) 5 _ (λ u. AllKept (coding_limits u)) b (due_order (unit_form m) (6 * m) 5 (total_entries m) (λ vs. codings_number (codings vs)) b);
}

-- units one after another
units_read : {m : ℕ} {b : List ℕ} {us : List (List Coding)} {s : ℕ} → Units m b us s → many (length us) (unit_parser m) b ≡ took us s
unfolding many done
units_read no_more = refl
units_read {m} {b} (one_more {u = u} {k} {us} {s} e t) = bind_took (unit_parser m) _ b u k (u ∷ us) s e (bind_took (many (length us) (unit_parser m)) _ (drop k b) us s (u ∷ us) 0 (units_read t) refl ∙ rw add-zero)

units_refused : {m : ℕ} {b : List ℕ} {us : List (List Coding)} {s : ℕ} → Units m b us s → (n k : ℕ) → length us < n → unit_parser m (drop s b) ≡ refused k → many n (unit_parser m) b ≡ refused k
unfolding many
units_refused t zero k l e = absurd (omega arith)
units_refused {m} {b} no_more (suc n) k l e = bind_refused (unit_parser m) _ b k e
units_refused {m} {b} (one_more {u = u} {k = i} {us} {s} f t) (suc n) k l e =
    bind_later (unit_parser m) _ b u i k f (bind_refused (many n (unit_parser m)) _ (drop i b) k (units_refused {b = drop i b} t n k (omega arith) (rw drop-drop e)))

opening_order : (d : Door) (b : List ℕ) → OpeningOrder d b
unfolding parse done
opening_order d b = record {
  header_first = λ n e. bind_refused (header_parser d) _ b n e;
  then_rates = λ h k n e f. bind_later (header_parser d) _ b h k n e (bind_refused (record_due (rates_form h.rates)) _ (drop k b) n f);
  then_units = λ h k rs r us s n e f t l g.
      bind_later (header_parser d) _ b h k n e
      (bind_later (record_due (rates_form h.rates)) _ (drop k b) rs r n f
      (bind_refused (many h.units (unit_parser h.choices)) _ (drop r (drop k b)) n (units_refused t h.units n l g)));
  else_opens = λ h k rs r us s e f t l.
      bind_took (header_parser d) _ b h k (job_of h rs us) (r + s) e
      (bind_took (record_due (rates_form h.rates)) _ (drop k b) rs r (job_of h rs us) s f
      (bind_took (many h.units (unit_parser h.choices)) _ (drop r (drop k b)) us s (job_of h rs us) 0 (rw (← l) (units_read t)) refl ∙ rw add-zero));
}

pub refusals : Refusals
refusals d b = (record_orders b, opening_order d b)
