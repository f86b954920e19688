-- What the writer answers and leaves, case by case, against the call's definition.
use Prim.Native.Nat.{ℕ, ◌+◌, ◌*◌, ◌≤◌}
use mathlib.Core.Path.{◌≡◌, sym, ap, ◌∙◌}
use mathlib.Core.Option.{none, some}
use mathlib.Core.List.{List}
use native.Mathlib.Omega.{arith}
use lib.ListN.{length}
use Rattle.base.specs.Answer.{refused, gives}
use Rattle.base.specs.Lent.{refuse, over}
use Rattle.format.specs.Parser.{all_bytes}
use Rattle.format.specs.Records.{record_bytes}
use Rattle.format.specs.JobBytes.{Header, rates_form, unit_bytes, header_bytes, encode}
use Rattle.format.specs.Places.{header_size, job_size}
use Rattle.writing.specs.Lists.{parted, codings_from, job_from}
use Rattle.writing.specs.Calls.{write_refusal, write_call}
use Rattle.writing.proofs.Order.{Accepted, accepted}
use Rattle.writing.proofs.Writes.{header_given, taken, room_for}
use Rattle.writing.proofs.Refusals.{size_given, refused_first, limits_kept, room_left}
use Rattle.fields.specs.Written.{put_at}
use Rattle.records.proofs.Records.{put_job}

module _ (h : Header) (rates sizes distortions out : List ℕ) where
  pub write_refused : (n : ℕ) → some n ≡ write_refusal h rates sizes distortions (length out) → record { answer = refused n; list = out } ≡ write_call h rates sizes distortions out
  unfolding refuse
  write_refused n e = sym (refused_first h rates sizes distortions out n (sym e))

  module _ (e : none ≡ write_refusal h rates sizes distortions (length out)) where
    pub write_accepted : Accepted h rates sizes distortions
    write_accepted = accepted h rates sizes distortions (limits_kept h rates sizes distortions out (sym e))

    pub write_room : job_size h ≤ length out
    write_room = room_left h rates sizes distortions out (sym e)

    -- the header, the rates and the units, written one behind another, where the header takes w bytes
    module _ (w : ℕ) (front : w ≡ header_size h) (m o p : List ℕ) (a : m ≡ put_at out 0 (header_bytes h)) (b : o ≡ put_at m w (record_bytes (rates_form (length rates)) rates)) (c : p ≡ put_at o (w + 4 + 2 * length rates) (all_bytes (unit_bytes h.choices) (parted h.units h.choices (codings_from sizes distortions)))) where
      bytes_are : length (encode (job_from h rates sizes distortions)) ≤ length out → p ≡ over (encode (job_from h rates sizes distortions)) out
      unfolding job_from
      bytes_are fits = put_job h rates (parted h.units h.choices (codings_from sizes distortions)) (header_given h rates sizes distortions write_accepted) (omega (arith, write_accepted.lengths)) w front out m o p a b c fits

      pub write_done : record { answer = gives (job_size h); list = p } ≡ write_call h rates sizes distortions out
      write_done =
          let k = limits_kept h rates sizes distortions out (sym e) in
          let s = size_given h rates sizes distortions out k in
          sym (taken h rates sizes distortions out k
          ∙ room_for (job_from h rates sizes distortions) out s write_room
          ∙ ap (λ (list : List ℕ). record { answer = gives (job_size h); list = list }) (sym (bytes_are (omega (arith, write_room)))))
