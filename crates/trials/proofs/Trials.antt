-- What writing a trial job answers and leaves: it is the writer's call of the lists drawn, of which the writer's own claims speak.
use Prim.Native.Nat.{ℕ, zero, suc, ◌+◌, ◌-◌, ◌*◌, ◌/◌, ◌%◌, ◌≤◌}
use mathlib.Core.Path.{◌≡◌, refl, sym, ◌∙◌}
use mathlib.Core.Bool.{Bool, true, false}
use mathlib.Core.Option.{Option, none, some}
use mathlib.Core.List.{List, [], ◌∷◌, ◌++◌, append_assoc}
use native.Mathlib.Omega.{arith}
use borrow.Author.Tests.{leb-true}
use lib.Dec.{leb}
use lib.ListN.{length, drop}
use lib.Seq.{take_at}
use Rattle.base.specs.Answer.{gives}
use Rattle.base.specs.Refusals.{test, refusal, unless, first, guarded, InOrder}
use Rattle.base.specs.Lent.{Ended, over, refuse}
use Rattle.base.proofs.Answers.{not_refused, gives_same}
use Rattle.base.proofs.Lent.{over_length, over_rest}
use Rattle.base.proofs.Refusals.{unless_first}
use Rattle.model.specs.Job.{Job}
use Rattle.format.specs.Fields as fields
use Rattle.format.specs.Limits.{Limit, broken, AllKept}
use Rattle.format.specs.Records.{head_values, record_bytes}
use Rattle.format.specs.JobBytes.{Header, header_limits, further_buckets, opening, drain_limits, rate_limits, coding_limits, header_kind, header_form, header_in, header_bytes, encode}
use Rattle.format.specs.Claims.{u16_at}
use Rattle.format.specs.Places.{job_size}
use Rattle.format.proofs.Limits.{all_kept, all_kept_part, broken_first, none_broken}
use Rattle.format.proofs.RoundTrip.{parse_encode}
use Rattle.writing.specs.Lists.{codings_from}
use Rattle.writing.specs.Calls.{length_limits, write_limits, room_tests, write_in, write_refusal, write_call}
use Rattle.writing.specs.Claims as w
use Rattle.writing.proofs.Order.{Accepted, accepts}
use Rattle.writing.proofs.Writes.{formed_given}
use Rattle.writing.proofs.Refusals as w_proofs
use Rattle.writing.proofs.Refusals.{size_given, no_idle}
use Rattle.trials.specs.Calls.{trial_rates, trial_sizes, trial_distortions, trial_job, trial_limits, trial_room, trial_refusal, trial_call}
use Rattle.trials.specs.Claims.{Tried, Tries, Asks, Refusals, Alone, AsWritten}
use Rattle.trials.proofs.Drawn.{accepted, header_is, drawn}

module _ (h : Header) (s : ℕ) where
  abbrev rates : List ℕ
  rates = trial_rates h s

  abbrev sizes : List ℕ
  sizes = trial_sizes h s

  abbrev distortions : List ℕ
  distortions = trial_distortions h s

  -- the writer looks at the same limits first
  abbrev later : List Limit
  later = length_limits h rates sizes distortions ++ (rate_limits 0 rates ++ coding_limits (codings_from sizes distortions))

  limits_are : write_limits h rates sizes distortions ≡ trial_limits h ++ later
  unfolding write_limits trial_limits
  limits_are = sym (append_assoc (header_limits h) (drain_limits opening h.buckets) later)

  pub kept_all : AllKept (trial_limits h) → Accepted h rates sizes distortions
  unfolding trial_limits
  kept_all k = let p = all_kept_part (header_limits h) (drain_limits opening h.buckets) k in accepted h s p.0 p.1

  pub broken_same : broken (write_limits h rates sizes distortions) ≡ broken (trial_limits h)
  broken_same = go (broken (trial_limits h)) refl
    where
      go : (o : Option ℕ) → broken (trial_limits h) ≡ o → broken (write_limits h rates sizes distortions) ≡ o
      go none e = none_broken _ (accepts h rates sizes distortions (kept_all (all_kept _ e)))
      go (some n) e = rw limits_are (broken_first (trial_limits h) later n e)

  abbrev bytes : List ℕ
  bytes = encode (trial_job h s)

  pub bytes_count : AllKept (trial_limits h) → length bytes ≡ job_size h
  unfolding trial_job
  bytes_count k = size_given h rates sizes distortions [] (accepts h rates sizes distortions (kept_all k))

  -- 12 is the same too
  refusal_by : (n : ℕ) (o : Option ℕ) → broken (trial_limits h) ≡ o → first o (refusal (trial_room h n)) ≡ first o (refusal (room_tests (trial_job h s) n))
  unfolding unless trial_room room_tests
  refusal_by n none e = rw (bytes_count (all_kept _ e))
  refusal_by n (some k) e = refl

  pub refusal_same : (n : ℕ) → trial_refusal h n ≡ write_refusal h rates sizes distortions n
  unfolding trial_refusal write_refusal
  refusal_same n = refusal_by n (broken (trial_limits h)) refl ∙ unfold trial_job in (rw broken_same)

pub as_written : AsWritten
unfolding trial_call write_call write_in guarded trial_job
as_written h s out = rw (refusal_same h s (length out)) (unfold write_refusal in (unless_first (refuse out) (broken (write_limits h (rates h s) (sizes h s) (distortions h s))) _ _))

-- the kind that stands in a job's bytes
module _ (j : Job) (more : List ℕ) where
  kind_there : u16_at (encode j ++ more) 2 ≡ header_kind (further_buckets (header_in j))
  unfolding encode header_bytes record_bytes header_form head_values fields.spelled fields.bytes
  kind_there = small (further_buckets (header_in j))
    where
      small : (n : ℕ) → header_kind n % 256 + 256 * (header_kind n / 256 % 256) ≡ header_kind n
      small zero = unfold header_kind in refl
      small (suc n) = unfold header_kind in refl

  kind_by : (h : Header) → header_in j ≡ h → (n : ℕ) → length h.buckets ≡ n → u16_at (encode j ++ more) 2 ≡ header_kind (n - 1)
  kind_by h e n l = kind_there ∙ rw (e, l)

-- what is written
module _ (h : Header) (s : ℕ) (out : List ℕ) where
  abbrev Good : Ended ℕ → Type 0
  Good r = (n : ℕ) → r.answer ≡ gives n → Tried h s out n r.list

  refused_good : (n : ℕ) → Good (refuse out n)
  unfolding refuse
  refused_good n k e = absurd (not_refused (sym e))

  module _ (k : AllKept (trial_limits h)) where
    over_good : job_size h ≤ length out → (n : ℕ) → length (bytes h s) ≡ n → Tried h s out n (over (bytes h s) out)
    over_good fits n e = record {
      drawn = drawn h s (kept_all h s k).header (kept_all h s k).drains;
      opens = unfold over in (parse_encode opening (trial_job h s) (unfold trial_job in (formed_given h _ _ _ (kept_all h s k))) _ ∙ rw e);
      bytes = unfold over in (take_at (bytes h s) _ n e);
      kind = unfold over in (λ one. kind_of one ∙ unfold header_kind in refl, λ two. kind_of two ∙ unfold header_kind in refl);
      count = sym e ∙ bytes_count h s k;
      rest = over_rest (bytes h s) out (omega (arith, bytes_count h s k)) n e;
      size = over_length (bytes h s) out (omega (arith, bytes_count h s k));
    }
      where
        kind_of : {n : ℕ} → length h.buckets ≡ n → u16_at (bytes h s ++ drop (length (bytes h s)) out) 2 ≡ header_kind (n - 1)
        kind_of l = kind_by (trial_job h s) _ h (header_is h s (kept_all h s k).header (kept_all h s k).drains) _ l

    -- the room decides
    room_good : (b : Bool) → leb (job_size h) (length out) ≡ b → Good (unless (refuse out) (refusal (test 12 b ∷ [])) (record { answer = gives (length (bytes h s)); list = over (bytes h s) out }))
    unfolding unless refusal
    room_good true e = λ n q. over_good (leb-true _ (length out) e) n (gives_same q)
    room_good false e = refused_good 12

  call_good : (o : Option ℕ) → broken (trial_limits h) ≡ o → Good (unless (refuse out) (first o (refusal (trial_room h (length out)))) (record { answer = gives (length (bytes h s)); list = over (bytes h s) out }))
  unfolding unless trial_room
  call_good none e = room_good (all_kept (trial_limits h) e) (leb (job_size h) (length out)) refl
  call_good (some n) e = refused_good n

pub tries : Tries
unfolding trial_call trial_refusal
tries h s out = call_good h s out (broken (trial_limits h)) refl

pub alone : Alone
alone h s one other n k e f =
    let a = tries h s one n e in
    let b = tries h s other k f in
    (a.count ∙ sym b.count, a.bytes ∙ sym b.bytes)

-- the order of refusals is the writer's, of which 16, 4 and 5 never come
in_this_order : {R : Type 0} (h : Header) (s : ℕ) (out : List ℕ) (r : R) (refused : ℕ → R) (Else : Type 0) → InOrder r refused (w.Asks h (rates h s) (sizes h s) (distortions h s) out) Else → InOrder r refused (Asks h out) Else
in_this_order h s out r refused Else o = (
  o.0,
  λ a. (
    (o.1 a).0,
    λ idle. let k = accepted h s a (no_idle h a idle) in ((((o.1 a).1 idle).1 k.lengths).1 k.rates_kept).1 k.codings_kept,
  ),
)

pub refusals : Refusals
refusals h s out =
    let r = w_proofs.refusals h (rates h s) (sizes h s) (distortions h s) out in
    rw (as_written h s out) (in_this_order h s out _ (refuse out) _ r.0, r.1)

-- the same order of the refusal that is found before writing, which looks at no state
pub refusal_order : (h : Header) (out : List ℕ) → InOrder (trial_refusal h (length out)) some (Asks h out) (trial_refusal h (length out) ≡ none)
refusal_order h out = rw (refusal_same h 0 (length out)) (in_this_order h 0 out _ some _ (w_proofs.refusal_order h (rates h 0) (sizes h 0) (distortions h 0) out))

-- where nothing refuses, the answer is how many bytes the job takes
pub done_first : (h : Header) (s : ℕ) (out : List ℕ) → trial_refusal h (length out) ≡ none → (trial_call h s out).answer ≡ gives (job_size h)
done_first h s out e = rw (as_written h s out) (w_proofs.done_first h (rates h s) (sizes h s) (distortions h s) out (sym (refusal_same h s (length out)) ∙ e))
