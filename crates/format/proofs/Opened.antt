-- Bytes that hold a job with a header: what the header says of the job, and the laws of what opens.
use Prim.Native.Nat.{ℕ, ◌+◌, ◌≤◌}
use mathlib.Core.Path.{◌≡◌, sym, ◌∙◌, ap}
use mathlib.Core.List.{List, map}
use native.Mathlib.Omega.{arith}
use lib.ListN.{length}
use Rattle.model.specs.Job.{Job, intervals}
use Rattle.format.specs.Limits.{AllKept}
use Rattle.format.specs.Parser.{took}
use Rattle.format.specs.JobBytes.{Door, archive, Header, bucket_of, header_in, job_of, parse, job_or_none, job_in, Opens, WellFormed, header_limits}
use Rattle.format.specs.Claims.{InLimits, LookedUp}
use Rattle.format.proofs.RoundTrip.{job_back}
use Rattle.format.proofs.Bounds.{limited, archived}
use Rattle.format.proofs.Places.{well_read, looks_up}

-- by either door
pub held_job : (d : Door) (b : List ℕ) (j : Job) (k : ℕ) → parse d b ≡ took j k → job_in b ≡ j
unfolding job_in job_or_none
held_job d b j k e = rw (archived d b j k e)

pub opens_by : (d : Door) (b : List ℕ) (h : Header) (j : Job) (k : ℕ) → parse d b ≡ took j k → header_in j ≡ h → Opens b h
opens_by d b h j k e q = record {
  taken = k;
  parsed = archived d b j k e ∙ ap (λ (i : Job). took i k) (sym (held_job d b j k e));
  header_is = ap header_in (held_job d b j k e) ∙ q;
}

module _ (b : List ℕ) (h : Header) (o : Opens b h) where
  pub job_formed : WellFormed (job_in b)
  job_formed = (well_read archive b (job_in b) o.taken o.parsed).well_formed

  pub job_limits : InLimits (job_in b)
  job_limits = limited (job_in b) job_formed

  pub looked_up : LookedUp b (job_in b)
  looked_up = looks_up archive b (job_in b) o.taken o.parsed

  -- the header's counts are the job's
  pub units_are : length (job_in b).units ≡ h.units
  unfolding header_in
  units_are = ap (λ (k : Header). k.units) o.header_is

  pub delay_is : (job_in b).delay ≡ h.delay
  unfolding header_in
  delay_is = ap (λ (k : Header). k.delay) o.header_is

  pub rates_are : length (job_in b).line.rates ≡ h.rates
  unfolding header_in
  rates_are = ap (λ (k : Header). k.rates) o.header_is

  pub choices_are : (job_in b).choices ≡ h.choices
  unfolding header_in
  choices_are = ap (λ (k : Header). k.choices) o.header_is

  pub intervals_are : intervals (job_in b) ≡ h.units + h.delay
  unfolding intervals
  intervals_are = omega (arith, units_are, delay_is)

  pub few_intervals : h.units + h.delay ≤ 576
  few_intervals = omega (arith, units_are, delay_is, job_limits.units, job_limits.delay)

  -- its line and starting levels are those of its header
  pub decoder_is : (job_in b).line.decoder ≡ h.decoder
  unfolding header_in
  decoder_is = ap (λ (k : Header). k.decoder) o.header_is

  -- the job is that of its header
  parts_are : job_in b ≡ job_of h (job_in b).line.rates (job_in b).units
  parts_are = job_back (job_in b) job_formed ∙ ap (λ (k : Header). job_of k (job_in b).line.rates (job_in b).units) o.header_is

  pub buckets_are : (job_in b).line.buckets ≡ map bucket_of h.buckets
  unfolding job_of
  buckets_are = ap (λ (j : Job). j.line.buckets) parts_are

  pub start_is : (job_in b).start ≡ record { decoder = h.level; buckets = map (λ k. k.fill) h.buckets }
  unfolding job_of
  start_is = ap (λ (j : Job). j.start) parts_are

  -- one bucket or two
  pub header_kept : AllKept (header_limits h)
  header_kept = rw (← o.header_is) job_formed.header
