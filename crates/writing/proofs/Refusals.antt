-- In which order the writer refuses, and that a refusal leaves the bytes as they came.
use Prim.Native.Nat.{ℕ, ◌<◌, ◌≤◌}
use mathlib.Core.Path.{◌≡◌, refl, sym, ap, ◌∙◌}
use mathlib.Core.Option.{Option, none, some}
use mathlib.Core.List.{List, [], ◌∷◌}
use borrow.Author.Tests.{lt-leb, le-leb, leb-true}
use lib.Dec.{leb}
use lib.ListN.{length}
use native.Mathlib.Omega.{arith}
use Rattle.base.specs.Answer.{gives}
use Rattle.base.specs.Refusals.{test, refusal, unless, first, guarded, InOrder}
use Rattle.base.proofs.Refusals.{first_none, unless_some, unless_none, unless_first, refusal_here, refusal_last, refusal_none, guarded_here, guarded_last, Guarded, was_refused, was_done, guarded_is}
use Rattle.base.specs.Lent.{Ended, over, refuse, Keeping}
use Rattle.base.proofs.Lent.{refuse_keeps, gives_keeps}
use Rattle.format.specs.Limits.{broken, AllKept}
use Rattle.format.specs.JobBytes.{Header, header_limits, rate_limits, coding_limits, encode, opening, drain_limits, largest_sizes}
use Rattle.format.specs.Places.{job_size}
use Rattle.format.proofs.Limits.{broken_one, none_broken, all_kept}
use Rattle.format.specs.Claims.{Idle}
use Rattle.format.proofs.Doors.{drains_number, none_idle, all_drain, idle_or}
use Rattle.format.proofs.Opening.{kept_drains, header_number, rates_number, codings_number}
use Rattle.format.proofs.RoundTrip.{sized}
use Rattle.writing.specs.Lists.{codings_from, job_from}
use Rattle.writing.specs.Calls.{length_limits, write_limits, room_tests, write_in, write_refusal, write_call}
use Rattle.writing.specs.Claims.{Lengths, Asks, Refusals}
use Rattle.writing.proofs.Order.{kept_lengths, lengths_kept, accepted, accepts, at_header, at_drains, at_lengths, at_rates, at_codings}
use Rattle.writing.proofs.Writes.{header_given, well_given, taken}

module _ (h : Header) (rates sizes distortions out : List ℕ) where
  pub refused_by : (n : ℕ) → broken (write_limits h rates sizes distortions) ≡ some n → write_call h rates sizes distortions out ≡ refuse out n
  unfolding write_call unless
  refused_by n e = rw e

  -- how many bytes a job takes that keeps all limits
  pub size_given : AllKept (write_limits h rates sizes distortions) → length (encode (job_from h rates sizes distortions)) ≡ job_size h
  size_given k =
      let a = accepted h rates sizes distortions k in
      sized (job_from h rates sizes distortions) (well_given h rates sizes distortions a) ∙ ap job_size (header_given h rates sizes distortions a)

  short : length out < length (encode (job_from h rates sizes distortions)) → write_in (job_from h rates sizes distortions) out ≡ refuse out 12
  unfolding write_in room_tests
  short l = guarded_here (refuse out) _ _ _ (lt-leb _ _ l)

  enough : length (encode (job_from h rates sizes distortions)) ≤ length out → (write_in (job_from h rates sizes distortions) out).answer ≡ gives (length (encode (job_from h rates sizes distortions)))
  unfolding write_in room_tests
  enough l = ap (λ (r : Ended ℕ). r.answer) (guarded_last (refuse out) _ _ (le-leb _ (length out) l))

  in_keeps : Keeping out (write_in (job_from h rates sizes distortions) out)
  unfolding write_in
  in_keeps = kept (guarded_is (refuse out) _ _)
    where
      kept : {q : Ended ℕ} → Guarded (refuse out) (record { answer = gives (length (encode (job_from h rates sizes distortions))); list = over (encode (job_from h rates sizes distortions)) out }) q → Keeping out q
      kept (was_refused n) = refuse_keeps out n
      kept was_done = gives_keeps out _ _

  kept_by : (o : Option ℕ) → Keeping out (unless (refuse out) o (write_in (job_from h rates sizes distortions) out))
  unfolding unless
  kept_by (some n) = refuse_keeps out n
  kept_by none = in_keeps

  keeps : Keeping out (write_call h rates sizes distortions out)
  unfolding write_call
  keeps = kept_by (broken (write_limits h rates sizes distortions))

  -- the refusal that is found before writing is the call's
  pub refused_first : (n : ℕ) → write_refusal h rates sizes distortions (length out) ≡ some n → write_call h rates sizes distortions out ≡ refuse out n
  unfolding write_call write_in guarded write_refusal
  refused_first n e = sym (unless_first (refuse out) (broken (write_limits h rates sizes distortions)) (refusal (room_tests (job_from h rates sizes distortions) (length out))) _) ∙ unless_some (refuse out) _ n _ e

  pub limits_kept : write_refusal h rates sizes distortions (length out) ≡ none → AllKept (write_limits h rates sizes distortions)
  unfolding write_refusal
  limits_kept e = all_kept _ (first_none _ _ e).0

  pub room_left : write_refusal h rates sizes distortions (length out) ≡ none → job_size h ≤ length out
  unfolding write_refusal room_tests
  room_left e = omega (arith, size_given (limits_kept e), leb-true (length (encode (job_from h rates sizes distortions))) (length out) (refusal_none _ [] (first_none _ _ e).1).0)

  module _ (k : AllKept (write_limits h rates sizes distortions)) where
    pub too_short : length out < job_size h → write_call h rates sizes distortions out ≡ refuse out 12
    too_short l = taken h rates sizes distortions out k ∙ short (omega (arith, size_given k))

    done : job_size h ≤ length out → (write_call h rates sizes distortions out).answer ≡ gives (job_size h)
    done l = ap (λ (r : Ended ℕ). r.answer) (taken h rates sizes distortions out k) ∙ enough (omega (arith, size_given k)) ∙ ap gives (size_given k)

-- where nothing refuses, the answer is how many bytes the job takes
pub done_first : (h : Header) (rates sizes distortions out : List ℕ) → write_refusal h rates sizes distortions (length out) ≡ none → (write_call h rates sizes distortions out).answer ≡ gives (job_size h)
done_first h rates sizes distortions out e = done h rates sizes distortions out (limits_kept h rates sizes distortions out e) (room_left h rates sizes distortions out e)

-- 17 exactly for a header with a drain of 0
idle_broken : (h : Header) → ((Idle h → ⊥) → ⊥) → broken (drain_limits opening h.buckets) ≡ some 17
idle_broken h f = broken_one 17 (drain_limits opening h.buckets) (drains_number opening h.buckets) (λ k. f (λ i. let z = none_idle h.buckets k i.0 i.1 in omega (arith, i.2)))

pub no_idle : (h : Header) → AllKept (header_limits h) → (Idle h → ⊥) → AllKept (drain_limits opening h.buckets)
no_idle h a f = all_drain h.buckets (kept_drains largest_sizes h.buckets a.1.1.1.1.1.1.1 (omega arith)) (idle_or h.buckets (λ i l q. f (i, l, q)))

-- all limits from the five parts
all_limits : (h : Header) (rates sizes distortions : List ℕ) → AllKept (header_limits h) → AllKept (drain_limits opening h.buckets) → Lengths h rates sizes distortions → AllKept (rate_limits 0 rates) → AllKept (coding_limits (codings_from sizes distortions)) → AllKept (write_limits h rates sizes distortions)
all_limits h rates sizes distortions a q b c d = accepts h rates sizes distortions (record { header = a; drains = q; lengths = b; rates_kept = c; codings_kept = d })

-- the same order of the refusal that is found before writing
pub refusal_order : (h : Header) (rates sizes distortions out : List ℕ) → InOrder (write_refusal h rates sizes distortions (length out)) some (Asks h rates sizes distortions out) (write_refusal h rates sizes distortions (length out) ≡ none)
unfolding write_refusal
refusal_order h rates sizes distortions out = (
  λ f. first_is 3 (at_header h rates sizes distortions 3 (broken_one 3 (header_limits h) (header_number h) f)),
  λ a. (
    λ f. first_is 17 (at_drains h rates sizes distortions 17 a (idle_broken h f)),
    λ idle. let q = no_idle h a idle in (
      λ f. first_is 16 (at_lengths h rates sizes distortions 16 a q (broken_one 16 (length_limits h rates sizes distortions) (refl, (refl, (refl, tt))) (λ k. f (kept_lengths h rates sizes distortions k)))),
      λ b. (
        λ f. first_is 4 (at_rates h rates sizes distortions 4 a q (lengths_kept h rates sizes distortions b) (broken_one 4 (rate_limits 0 rates) (rates_number 0 rates) f)),
        λ c. (
          λ f. first_is 5 (at_codings h rates sizes distortions a q (lengths_kept h rates sizes distortions b) c ∙ broken_one 5 (coding_limits (codings_from sizes distortions)) (codings_number (codings_from sizes distortions)) f),
          λ d. (
            λ f. kept (all_limits h rates sizes distortions a q b c d) ∙ refusal_here _ [] (lt-leb (length (encode (job_from h rates sizes distortions))) (length out) (omega (arith, size_given h rates sizes distortions out (all_limits h rates sizes distortions a q b c d)))),
            λ l. kept (all_limits h rates sizes distortions a q b c d) ∙ refusal_last _ (le-leb (length (encode (job_from h rates sizes distortions))) (length out) (omega (arith, size_given h rates sizes distortions out (all_limits h rates sizes distortions a q b c d)))),
          ),
        ),
      ),
    ),
  ),
)
  where
    first_is : (n : ℕ) → broken (write_limits h rates sizes distortions) ≡ some n → first (broken (write_limits h rates sizes distortions)) (refusal (room_tests (job_from h rates sizes distortions) (length out))) ≡ some n
    first_is n e = unless_some some (broken (write_limits h rates sizes distortions)) n _ e

    kept : AllKept (write_limits h rates sizes distortions) → first (broken (write_limits h rates sizes distortions)) (refusal (room_tests (job_from h rates sizes distortions) (length out))) ≡ refusal (test 12 (leb (length (encode (job_from h rates sizes distortions))) (length out)) ∷ [])
    kept k = unless_none some (broken (write_limits h rates sizes distortions)) _ (none_broken _ k) ∙ unfold room_tests in refl

pub refusals : Refusals
refusals h rates sizes distortions out = (
  (
    λ f. refused_by h rates sizes distortions out 3 (at_header h rates sizes distortions 3 (broken_one 3 (header_limits h) (header_number h) f)),
    λ a. (
      λ f. refused_by h rates sizes distortions out 17 (at_drains h rates sizes distortions 17 a (idle_broken h f)),
      λ idle. let q = no_idle h a idle in (
        λ f. refused_by h rates sizes distortions out 16 (at_lengths h rates sizes distortions 16 a q (broken_one 16 (length_limits h rates sizes distortions) (refl, (refl, (refl, tt))) (λ k. f (kept_lengths h rates sizes distortions k)))),
        λ b. (
          λ f. refused_by h rates sizes distortions out 4 (at_rates h rates sizes distortions 4 a q (lengths_kept h rates sizes distortions b) (broken_one 4 (rate_limits 0 rates) (rates_number 0 rates) f)),
          λ c. (
            λ f. refused_by h rates sizes distortions out 5 (at_codings h rates sizes distortions a q (lengths_kept h rates sizes distortions b) c ∙ broken_one 5 (coding_limits (codings_from sizes distortions)) (codings_number (codings_from sizes distortions)) f),
            λ d. (
              λ f. too_short h rates sizes distortions out (all_limits h rates sizes distortions a q b c d) (omega arith),
              λ l. done h rates sizes distortions out (all_limits h rates sizes distortions a q b c d) l,
            ),
          ),
        ),
      ),
    ),
  ),
  keeps h rates sizes distortions out,
)
