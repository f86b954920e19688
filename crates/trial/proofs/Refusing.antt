-- What refuses a trial job, one after another: the header, its drains, the room.
use Rattle.std.proofs.Common.{◌≡◌, ℕ, ◌<◌, ◌≤◌, sym, ◌∙◌, le-leb}
use mathlib.Core.Option.{none, some}
use borrow.Author.Tests.{lt-leb}
use Rattle.base.proofs.Refusals.{refusal_here, refusal_last, unless_some, unless_none}
use Rattle.format.specs.Limits.{broken}
use Rattle.format.specs.JobBytes.{Header, header_limits, opening, drain_limits}
use Rattle.format.specs.Places.{job_size}
use Rattle.format.proofs.Limits.{all_kept, broken_first, broken_later}
use Rattle.trials.specs.Calls.{trial_limits, trial_room, trial_refusal}

module _ (h : Header) (out : ℕ) where
  limit_refuses : (n : ℕ) → broken (trial_limits h) ≡ some n → some n ≡ trial_refusal h out
  unfolding trial_refusal
  limit_refuses n e = sym (unless_some some (broken (trial_limits h)) n _ e)

  pub header_refuses : (n : ℕ) → some n ≡ broken (header_limits h) → some n ≡ trial_refusal h out
  header_refuses n e = limit_refuses n (unfold trial_limits in (broken_first (header_limits h) (drain_limits opening h.buckets) n (sym e)))

  module _ (e : none ≡ broken (header_limits h)) where
    limits_are : broken (trial_limits h) ≡ broken (drain_limits opening h.buckets)
    unfolding trial_limits
    limits_are = broken_later (header_limits h) (drain_limits opening h.buckets) (all_kept _ (sym e))

    pub drains_refuse : (n : ℕ) → some n ≡ broken (drain_limits opening h.buckets) → some n ≡ trial_refusal h out
    drains_refuse n f = limit_refuses n (limits_are ∙ sym f)

    module _ (f : none ≡ broken (drain_limits opening h.buckets)) where
      pub room_refuses : out < job_size h → some 12 ≡ trial_refusal h out
      unfolding trial_refusal trial_room
      room_refuses l = sym (unless_none some (broken (trial_limits h)) _ (limits_are ∙ sym f) ∙ refusal_here _ _ (lt-leb (job_size h) out l))

      pub none_refuses : job_size h ≤ out → none ≡ trial_refusal h out
      unfolding trial_refusal trial_room
      none_refuses l = sym (unless_none some (broken (trial_limits h)) _ (limits_are ∙ sym f) ∙ refusal_last _ (le-leb (job_size h) out l))
