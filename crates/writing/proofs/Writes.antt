-- What is written opens and holds what was given, and a job that opens is rewritten to its bytes: the round trips of `parse` and `encode`, of a job from lists.
use Prim.Native.Nat.{ℕ, ◌*◌, ◌≤◌}
use mathlib.Core.Path.{◌≡◌, refl, sym, ap, ◌∙◌}
use mathlib.Core.Bool.{Bool, true, false}
use mathlib.Core.Option.{Option, none, some}
use mathlib.Core.List.{List, [], ◌∷◌, ◌++◌, map}
use native.Mathlib.Omega.{arith}
use borrow.Author.Tests.{leb-true, le-leb}
use lib.Dec.{leb}
use lib.ListN.{length, take, drop}
use lib.Seq.{length-take-le}
use Rattle.base.specs.Answer.{gives}
use Rattle.base.specs.Refusals.{test, unless, guarded}
use Rattle.base.proofs.Refusals.{refusal_last, unless_none, guarded_here, guarded_last}
use Rattle.base.specs.Lent.{Ended, over, refuse}
use Rattle.model.specs.Job.{Coding, Job}
use Rattle.base.proofs.Answers.{not_refused, gives_same}
use Rattle.base.proofs.Lent.{over_length, over_rest}
use Rattle.format.specs.Fields.{Bytes}
use Rattle.format.specs.Limits.{broken, AllKept}
use Rattle.format.specs.Parser.{took}
use Rattle.format.specs.JobBytes.{Header, job_of, header_in, encode, WellFormed, opening, drain_limits, Formed, parse}
use Rattle.format.specs.Claims.{WrittenBack}
use Rattle.format.proofs.Limits.{all_kept, none_broken}
use Rattle.format.proofs.Header.{header_back}
use Rattle.format.proofs.RoundTrip.{level_each, parse_encode, encode_parse}
use Rattle.writing.specs.Lists.{joined, parted, sizes_in, distortions_in, codings_from, job_from}
use Rattle.writing.specs.Calls.{write_limits, room_tests, write_in, write_refusal, write_call}
use Rattle.writing.specs.Claims.{Written, Writes, Rewrites}
use Rattle.writing.proofs.Order.{Accepted, accepted, accepts}
use Rattle.writing.proofs.Own.{own_sizes, own_distortions, own_job}
use Rattle.writing.proofs.Lists.{joined_parted, parted_length, sizes_back, distortions_back, codings_count, codings_back, joined_kept, parted_kept}

module _ (h : Header) (rates sizes distortions : List ℕ) where
  module _ (a : Accepted h rates sizes distortions) where
    abbrev cs : List Coding
    cs = codings_from sizes distortions

    counted : length cs ≡ h.units * h.choices
    counted = codings_count sizes distortions (omega (arith, a.lengths)) ∙ omega (arith, a.lengths)

    pub header_given : header_in (job_from h rates sizes distortions) ≡ h
    unfolding job_from
    header_given = header_back h rates (parted h.units h.choices cs) (omega (arith, a.lengths)) (parted_length h.units h.choices cs)

    joined_given : joined (job_from h rates sizes distortions).units ≡ cs
    unfolding job_from job_of
    joined_given = joined_parted h.units h.choices cs counted

    pub well_given : WellFormed (job_from h rates sizes distortions)
    well_given = record {
      fills = level_each (job_from h rates sizes distortions) h rates (parted h.units h.choices cs) (unfold job_from in refl);
      header = rw header_given a.header;
      rates = unfold job_from job_of in a.rates_kept;
      units = unfold job_from job_of in (parted_kept h.units h.choices cs counted a.codings_kept);
    }

    pub formed_given : Formed opening (job_from h rates sizes distortions)
    formed_given = record { well_formed = well_given; drains = rw header_given a.drains }

    -- the bytes of the job over those of a list that is long enough
    over_written : (out : List ℕ) → length (encode (job_from h rates sizes distortions)) ≤ length out → (n : ℕ) → length (encode (job_from h rates sizes distortions)) ≡ n → Written h rates sizes distortions out n (over (encode (job_from h rates sizes distortions)) out)
    over_written out fits n e = record {
      job = job_from h rates sizes distortions;
      opens = unfold over in (parse_encode opening (job_from h rates sizes distortions) formed_given _ ∙ rw e);
      header = header_given;
      rates_are = unfold job_from job_of in refl;
      sizes_are = unfold sizes_in in (ap (map (λ c. c.size)) joined_given ∙ sizes_back sizes distortions (omega (arith, a.lengths)));
      distortions_are = unfold distortions_in in (ap (map (λ c. c.distortion)) joined_given ∙ distortions_back sizes distortions (omega (arith, a.lengths)));
      rest = over_rest (encode (job_from h rates sizes distortions)) out fits n e;
      size = over_length (encode (job_from h rates sizes distortions)) out fits;
    }

-- what an accepted job comes to
pub taken : (h : Header) (rates sizes distortions out : List ℕ) → AllKept (write_limits h rates sizes distortions) → write_call h rates sizes distortions out ≡ write_in (job_from h rates sizes distortions) out
unfolding write_call unless
taken h rates sizes distortions out k = rw (none_broken (write_limits h rates sizes distortions) k)

module _ (h : Header) (rates sizes distortions out : List ℕ) where
  abbrev Good : Ended ℕ → Type 0
  Good r = (n : ℕ) → r.answer ≡ gives n → Written h rates sizes distortions out n r.list

  refused_good : (n : ℕ) → Good (refuse out n)
  unfolding refuse
  refused_good n k e = absurd (not_refused (sym e))

  written_good : Accepted h rates sizes distortions → Good (write_in (job_from h rates sizes distortions) out)
  unfolding write_in room_tests
  written_good a = go (leb (length (encode (job_from h rates sizes distortions))) (length out)) refl
    where
      go : (b : Bool) → leb (length (encode (job_from h rates sizes distortions))) (length out) ≡ b → Good (guarded (refuse out) (test 12 b ∷ []) (record { answer = gives (length (encode (job_from h rates sizes distortions))); list = over (encode (job_from h rates sizes distortions)) out }))
      go true e = rw (guarded_last (refuse out) (test 12 true) (record { answer = gives (length (encode (job_from h rates sizes distortions))); list = over (encode (job_from h rates sizes distortions)) out }) refl) (λ n q. over_written h rates sizes distortions a out (leb-true _ (length out) e) n (gives_same q))
      go false e = rw (guarded_here (refuse out) (test 12 false) [] (record { answer = gives (length (encode (job_from h rates sizes distortions))); list = over (encode (job_from h rates sizes distortions)) out }) refl) (refused_good 12)

  call_good : (o : Option ℕ) → broken (write_limits h rates sizes distortions) ≡ o → Good (unless (refuse out) o (write_in (job_from h rates sizes distortions) out))
  unfolding unless
  call_good none e = written_good (accepted h rates sizes distortions (all_kept (write_limits h rates sizes distortions) e))
  call_good (some n) e = refused_good n

pub writes : Writes
unfolding write_call
writes h rates sizes distortions out = call_good h rates sizes distortions out (broken (write_limits h rates sizes distortions)) refl

-- a job's own lists are accepted
own_accepted : (j : Job) (w : WellFormed j) → AllKept (drain_limits opening (header_in j).buckets) → Accepted (header_in j) j.line.rates (sizes_in j) (distortions_in j)
unfolding sizes_in distortions_in header_in
own_accepted j w q =
    let n = own_sizes j w in
    let m = own_distortions j w in
    record {
      header = w.header;
      drains = q;
      lengths = omega arith;
      rates_kept = w.rates;
      codings_kept = rw codings_back (joined_kept j.choices j.units w.units);
    }

-- a list that has room for a job's bytes
pub room_for : (j : Job) (out : List ℕ) {n : ℕ} → length (encode j) ≡ n → n ≤ length out → write_in j out ≡ record { answer = gives n; list = over (encode j) out }
unfolding write_in room_tests
room_for j out {n} k h = guarded_last (refuse out) _ _ (le-leb (length (encode j)) (length out) (omega arith)) ∙ rw k

over_same : (j : Job) (out l : List ℕ) (n : ℕ) → l ≡ encode j → length (encode j) ≡ n → ◌≡◌ {A = Ended ℕ} (record { answer = gives n; list = over (encode j) out }) (record { answer = gives n; list = l ++ drop n out })
unfolding over
over_same j out l n e k = rw (k, e)

-- a job that opens, from its own lists: its bytes are those that it took, and nothing refuses it
module _ (b : List ℕ) (B : Bytes b) (j : Job) (n : ℕ) (e : parse opening b ≡ took j n) where
  abbrev back : WrittenBack opening b j n
  back = encode_parse opening b B j n e

  own_size : length (encode j) ≡ n
  own_size = ap length (sym back.same) ∙ length-take-le n b back.size

  own_kept : AllKept (write_limits (header_in j) j.line.rates (sizes_in j) (distortions_in j))
  own_kept = accepts (header_in j) j.line.rates (sizes_in j) (distortions_in j) (own_accepted j back.formed.well_formed back.formed.drains)

  pub own_unrefused : (out : ℕ) → n ≤ out → write_refusal (header_in j) j.line.rates (sizes_in j) (distortions_in j) out ≡ none
  unfolding write_refusal room_tests
  own_unrefused out room =
      let size : length (encode (job_from (header_in j) j.line.rates (sizes_in j) (distortions_in j))) ≡ n = ap (λ (i : Job). length (encode i)) (own_job j back.formed.well_formed) ∙ own_size in
      unless_none some (broken (write_limits (header_in j) j.line.rates (sizes_in j) (distortions_in j))) _ (none_broken _ own_kept) ∙ refusal_last _ (le-leb _ out (omega (arith, size)))

pub rewrites : Rewrites
rewrites b B j n e out room =
    let r = encode_parse opening b B j n e in
    taken (header_in j) j.line.rates (sizes_in j) (distortions_in j) out (own_kept b B j n e)
    ∙ ap (λ (i : Job). write_in i out) (own_job j r.formed.well_formed)
    ∙ room_for j out (own_size b B j n e) room
    ∙ over_same j out (take n b) n r.same (own_size b B j n e)
