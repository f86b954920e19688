-- What writing a trial job answers and leaves, case by case: as the writer does with the lists drawn.
use Rattle.std.proofs.Common.{◌≡◌, ℕ, ◌+◌, ◌*◌, ◌≤◌, List, length, sym, ◌∙◌}
use mathlib.Core.Option.{none, some}
use Rattle.base.specs.Answer.{refused, gives}
use Rattle.base.specs.Lists.{build}
use Rattle.base.proofs.Builds.{build_length}
use Rattle.format.specs.Parser.{all_bytes}
use Rattle.format.specs.Records.{record_bytes}
use Rattle.format.specs.JobBytes.{Header, rates_form, unit_bytes, header_bytes}
use Rattle.format.specs.Places.{header_size, job_size}
use Rattle.fields.specs.Written.{put_at}
use Rattle.writing.specs.Lists.{parted, codings_from}
use Rattle.writing.specs.Calls.{write_refusal}
use Rattle.writing.proofs.Order.{Accepted}
use Rattle.writer.proofs.Answering.{write_refused, write_accepted, write_room, write_done}
use Rattle.trials.specs.Draws.{after, rate_drawn, size_drawn, distortion_drawn}
use Rattle.trials.specs.Calls.{trial_rates, trial_sizes, trial_distortions, trial_refusal, trial_call}
use Rattle.trials.proofs.Trials.{as_written, refusal_same}

module _ (h : Header) (s : ℕ) (out : List ℕ) where
  pub trial_refused : (n : ℕ) → some n ≡ trial_refusal h (length out) → record { answer = refused n; list = out } ≡ trial_call h s out
  trial_refused n e = write_refused h _ _ _ out n (e ∙ refusal_same h s (length out)) ∙ sym (as_written h s out)

  module _ (e : none ≡ trial_refusal h (length out)) where
    looked : none ≡ write_refusal h (trial_rates h s) (trial_sizes h s) (trial_distortions h s) (length out)
    looked = e ∙ refusal_same h s (length out)

    pub trial_accepted : Accepted h (trial_rates h s) (trial_sizes h s) (trial_distortions h s)
    trial_accepted = write_accepted h _ _ _ out looked

    pub room_there : job_size h ≤ length out
    room_there = write_room h _ _ _ out looked

    -- the header, the rates and the units, written one behind another, where the header takes w bytes
    pub trial_done : (w : ℕ) → w ≡ header_size h → (m o p : List ℕ) → m ≡ put_at out 0 (header_bytes h) → o ≡ put_at m w (record_bytes (rates_form h.rates) (build h.rates (rate_drawn s))) → p ≡ put_at o (w + 4 + 2 * h.rates) (all_bytes (unit_bytes h.choices) (parted h.units h.choices (codings_from (build (h.units * h.choices) (size_drawn (after h.rates s))) (build (h.units * h.choices) (distortion_drawn (after h.rates s)))))) → record { answer = gives (job_size h); list = p } ≡ trial_call h s out
    unfolding trial_rates trial_sizes trial_distortions
    trial_done w f m o p a b c =
        let n = build_length h.rates (rate_drawn s) in
        write_done h _ _ _ out looked w f m o p a (b ∙ rw n) (c ∙ rw n) ∙ sym (as_written h s out)
