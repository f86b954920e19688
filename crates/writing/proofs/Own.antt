-- A job's own lists: how long they are, what stands where in them, and that the job made of them is the job.
use Prim.Native.Nat.{ℕ, zero, suc, ◌+◌, ◌*◌, ◌<◌}
use mathlib.Core.Path.{◌≡◌, sym, ap, ◌∙◌}
use mathlib.Core.List.{List, [], ◌∷◌}
use native.Mathlib.Omega.{arith}
use native.Mathlib.Nat.{zero-mul, suc-mul}
use lib.ListN.{length, get_or, length-map, get_or-append, get_or-map}
use lib.Seq.{get_or-append-add}
use Rattle.model.specs.Job.{Coding, Job, nothing, job_coding}
use Rattle.format.specs.Parser.{Each, no_more, one_more}
use Rattle.format.specs.JobBytes.{job_of, header_in, UnitKept, WellFormed}
use Rattle.format.proofs.RoundTrip.{job_back}
use Rattle.writing.specs.Lists.{joined, parted, sizes_in, distortions_in, job_from}
use Rattle.writing.proofs.Lists.{parted_joined, joined_length, codings_back}

-- the x-th of the i-th of lists of one length
joined_at : {A : Type 0} (m : ℕ) (ls : List (List A)) → Each (λ l. length l ≡ m) ls → (i x : ℕ) (d : A) → i < length ls → x < m → get_or (joined ls) (i * m + x) d ≡ get_or (get_or ls i []) x d
unfolding joined
joined_at m [] no_more i x d h k = absurd (omega arith)
joined_at m (l ∷ ls) (one_more e t) zero x d h k = let z : zero * m + x ≡ x = omega (arith, zero-mul m) in rw z (get_or-append l (joined ls) d x (omega arith))
joined_at m (l ∷ ls) (one_more e t) (suc i) x d h k =
    let z : suc i * m + x ≡ length l + (i * m + x) = omega (arith, suc-mul i m) in
    rw z (get_or-append-add l (joined ls) (i * m + x) d ∙ joined_at m ls t i x d (omega arith) k)

each_count : (m : ℕ) (us : List (List Coding)) → Each (UnitKept m) us → Each (λ u. length u ≡ m) us
each_count m [] no_more = no_more
each_count m (u ∷ us) (one_more k t) = one_more k.count (each_count m us t)

module _ (j : Job) (w : WellFormed j) where
  counts : Each (λ u. length u ≡ j.choices) j.units
  counts = each_count j.choices j.units w.units

  pub own_sizes : length (sizes_in j) ≡ length j.units * j.choices
  unfolding sizes_in
  own_sizes = length-map (joined j.units) (λ (c : Coding). c.size) ∙ joined_length j.choices j.units counts

  pub own_distortions : length (distortions_in j) ≡ length j.units * j.choices
  unfolding distortions_in
  own_distortions = length-map (joined j.units) (λ (c : Coding). c.distortion) ∙ joined_length j.choices j.units counts

  -- the coding of the unit in place i, by its choice
  module _ (i x : ℕ) (h : i < length j.units) (k : x < j.choices) where
    coding_there : get_or (joined j.units) (i * j.choices + x) nothing ≡ job_coding j i x
    unfolding job_coding
    coding_there = joined_at j.choices j.units counts i x nothing h k

    pub size_there : get_or (sizes_in j) (i * j.choices + x) 0 ≡ (job_coding j i x).size
    unfolding sizes_in
    size_there = get_or-map (λ (c : Coding). c.size) (joined j.units) (i * j.choices + x) nothing ∙ ap (λ (c : Coding). c.size) coding_there

    pub distortion_there : get_or (distortions_in j) (i * j.choices + x) 0 ≡ (job_coding j i x).distortion
    unfolding distortions_in
    distortion_there = get_or-map (λ (c : Coding). c.distortion) (joined j.units) (i * j.choices + x) nothing ∙ ap (λ (c : Coding). c.distortion) coding_there

  own_units : parted (header_in j).units (header_in j).choices (joined j.units) ≡ j.units
  unfolding header_in
  own_units = parted_joined j.choices j.units counts

  pub own_job : job_from (header_in j) j.line.rates (sizes_in j) (distortions_in j) ≡ j
  unfolding job_from sizes_in distortions_in
  own_job =
      ap (job_of (header_in j) j.line.rates) (ap (parted (header_in j).units (header_in j).choices) (codings_back (joined j.units)) ∙ own_units)
      ∙ sym (job_back j w)
