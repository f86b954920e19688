-- The limits of header, drains, lengths, rates and codings, looked at in this order: which group decides.
use Prim.Native.Nat.{ℕ}
use mathlib.Core.Path.{◌≡◌, ◌∙◌}
use mathlib.Core.Option.{some}
use mathlib.Core.List.{List, ◌++◌}
use native.Mathlib.Omega.{arith}
use Rattle.format.specs.Limits.{Limit, broken, AllKept}
use Rattle.format.specs.JobBytes.{Header, header_limits, opening, drain_limits, rate_limits, coding_limits}
use Rattle.format.proofs.Limits.{all_kept_join, all_kept_part, broken_first, broken_later}
use Rattle.writing.specs.Lists.{codings_from}
use Rattle.writing.specs.Calls.{length_limits, write_limits}
use Rattle.writing.specs.Claims.{Lengths}

-- what keeps all limits, part by part
pub record Accepted (h : Header) (rates sizes distortions : List ℕ) : Type 0 where
  pub header : AllKept (header_limits h)
  pub drains : AllKept (drain_limits opening h.buckets)
  pub lengths : Lengths h rates sizes distortions
  pub rates_kept : AllKept (rate_limits 0 rates)
  pub codings_kept : AllKept (coding_limits (codings_from sizes distortions))

module _ (h : Header) (rates sizes distortions : List ℕ) where
  -- the limits of the lengths are kept exactly where the lists are as long as the header calls for
  pub kept_lengths : AllKept (length_limits h rates sizes distortions) → Lengths h rates sizes distortions
  kept_lengths k = omega arith

  pub lengths_kept : Lengths h rates sizes distortions → AllKept (length_limits h rates sizes distortions)
  lengths_kept l = omega arith

  -- the limits that are looked at after those of the header, and after those of the lengths
  abbrev later : List Limit
  later = rate_limits 0 rates ++ coding_limits (codings_from sizes distortions)

  abbrev after_drains : List Limit
  after_drains = length_limits h rates sizes distortions ++ later

  abbrev after_header : List Limit
  after_header = drain_limits opening h.buckets ++ after_drains

  pub accepted : AllKept (write_limits h rates sizes distortions) → Accepted h rates sizes distortions
  unfolding write_limits
  accepted k =
      let a = all_kept_part (header_limits h) after_header k in
      let d = all_kept_part (drain_limits opening h.buckets) after_drains a.1 in
      let b = all_kept_part (length_limits h rates sizes distortions) later d.1 in
      let c = all_kept_part (rate_limits 0 rates) (coding_limits (codings_from sizes distortions)) b.1 in
      record { header = a.0; drains = d.0; lengths = kept_lengths b.0; rates_kept = c.0; codings_kept = c.1 }

  pub accepts : Accepted h rates sizes distortions → AllKept (write_limits h rates sizes distortions)
  unfolding write_limits
  accepts a =
      all_kept_join (header_limits h) after_header a.header
      (all_kept_join (drain_limits opening h.buckets) after_drains a.drains
      (all_kept_join (length_limits h rates sizes distortions) later (lengths_kept a.lengths)
      (all_kept_join (rate_limits 0 rates) (coding_limits (codings_from sizes distortions)) a.rates_kept a.codings_kept)))

  -- the first group that is not kept decides
  module _ (n : ℕ) where
    pub at_header : broken (header_limits h) ≡ some n → broken (write_limits h rates sizes distortions) ≡ some n
    unfolding write_limits
    at_header e = broken_first (header_limits h) after_header n e

    pub at_drains : AllKept (header_limits h) → broken (drain_limits opening h.buckets) ≡ some n → broken (write_limits h rates sizes distortions) ≡ some n
    unfolding write_limits
    at_drains a e = broken_later (header_limits h) after_header a ∙ broken_first (drain_limits opening h.buckets) after_drains n e

    pub at_lengths : AllKept (header_limits h) → AllKept (drain_limits opening h.buckets) → broken (length_limits h rates sizes distortions) ≡ some n → broken (write_limits h rates sizes distortions) ≡ some n
    unfolding write_limits
    at_lengths a d e = broken_later (header_limits h) after_header a ∙ broken_later (drain_limits opening h.buckets) after_drains d ∙ broken_first (length_limits h rates sizes distortions) later n e

    pub at_rates : AllKept (header_limits h) → AllKept (drain_limits opening h.buckets) → AllKept (length_limits h rates sizes distortions) → broken (rate_limits 0 rates) ≡ some n → broken (write_limits h rates sizes distortions) ≡ some n
    unfolding write_limits
    at_rates a d b e =
        broken_later (header_limits h) after_header a
        ∙ broken_later (drain_limits opening h.buckets) after_drains d
        ∙ broken_later (length_limits h rates sizes distortions) later b
        ∙ broken_first (rate_limits 0 rates) (coding_limits (codings_from sizes distortions)) n e

  pub at_codings : AllKept (header_limits h) → AllKept (drain_limits opening h.buckets) → AllKept (length_limits h rates sizes distortions) → AllKept (rate_limits 0 rates) → broken (write_limits h rates sizes distortions) ≡ broken (coding_limits (codings_from sizes distortions))
  unfolding write_limits
  at_codings a d b c =
      broken_later (header_limits h) after_header a
      ∙ broken_later (drain_limits opening h.buckets) after_drains d
      ∙ broken_later (length_limits h rates sizes distortions) later b
      ∙ broken_later (rate_limits 0 rates) (coding_limits (codings_from sizes distortions)) c
