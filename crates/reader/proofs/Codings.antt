-- A coding as it is read from the bytes of a job is the one that stands in its place in the job's lists; and the place behind it.
use Prim.Native.Nat.{ℕ, suc, ◌+◌, ◌*◌, ◌-◌, ◌≤◌, ◌<◌}
use mathlib.Core.Path.{◌≡◌, sym, ap, subst, ◌∙◌}
use mathlib.Core.List.{List}
use native.Mathlib.Decide.{dec_lt}
use native.Mathlib.Omega.{arith}
use native.Mathlib.Nat.{suc-mul, mul-le-mul}
use lib.ListN.{length, get_or, set}
use Rattle.base.specs.Lent.{over, over_at}
use Rattle.model.specs.Job as model
use Rattle.model.specs.Job.{job_coding}
use Rattle.format.specs.JobBytes.{Header, job_in, Opens}
use Rattle.format.specs.Places.{rate_at, coding_at}
use Rattle.format.proofs.Opened.{job_formed, looked_up, units_are, rates_are, choices_are}
use Rattle.writing.specs.Lists.{sizes_in, distortions_in}
use Rattle.writing.proofs.Own.{own_sizes, own_distortions, size_there, distortion_there}
use Rattle.header.specs.declared.Coding as code
use Rattle.header.specs.Answers.{coding_of}
use Rattle.numbers.proofs.Copies.{Copied, copied_more, copied_all}
use Rattle.reader.specs.declared.Place.{Place}
use Rattle.reader.specs.Answers.{index}

-- a rate as it is read
pub rate_read : (b : List ℕ) (h : Header) (o : Opens b h) (i r : ℕ) → i < h.rates → r ≡ rate_at b h i → r ≡ get_or (job_in b).line.rates i 0
rate_read b h o i r l e = e ∙ rw (← o.header_is) ((looked_up b h o).rate i (omega (arith, rates_are b h o)))

-- a list that is copied from its first place on: one number more, and all
module _ (d s : List ℕ) (n : ℕ) (l : List ℕ) (c : Copied d 0 s n l) where
  pub copied_next : (x : ℕ) → n < length d → n < length s → x ≡ get_or s n 0 → Copied d 0 s (n + 1) (set l n x)
  copied_next x h k e =
      let z : 0 + n ≡ n = omega arith in
      subst (λ (p : ℕ). Copied d 0 s (n + 1) (set l p x)) z (copied_more d 0 s n x l (omega arith) k e c)

  pub copied_whole : length s ≡ n → l ≡ over s d
  unfolding over_at
  copied_whole e = copied_all d 0 s n l e c

-- how many sizes and distortions a job has
module _ (b : List ℕ) (h : Header) (o : Opens b h) where
  pub sizes_are : length (sizes_in (job_in b)) ≡ h.units * h.choices
  sizes_are = own_sizes (job_in b) (job_formed b h o) ∙ rw (units_are b h o, choices_are b h o)

  pub distortions_are : length (distortions_in (job_in b)) ≡ h.units * h.choices
  distortions_are = own_distortions (job_in b) (job_formed b h o) ∙ rw (units_are b h o, choices_are b h o)

-- the first of the next unit stands behind the last of a unit
pub next_unit : (m u x : ℕ) → 1 ≤ u → x < m → m ≤ x + 1 → (u + 1 - 1) * m + 0 ≡ (u - 1) * m + x + 1
next_unit m u x h k l =
    let e : u + 1 - 1 ≡ suc (u - 1) = omega arith in
    rw e (omega (arith, suc-mul (u - 1) m))

-- a place below n × m is in one of the first n units
unit_within : (n m u x : ℕ) → (u - 1) * m + x < n * m → u ≤ n
unit_within n m u x h = go (dec_lt n u)
  where
    go : Dec (n < u) → u ≤ n
    go (yes k) = let l : n * m ≤ (u - 1) * m = mul-le-mul {n₂ = u - 1} {m₂ = m} (omega arith) (omega arith) in absurd (omega arith)
    go (no k) = omega arith

module _ (b : List ℕ) (h : Header) (o : Opens b h) (p : Place) (i : ℕ) (unit : 1 ≤ p.unit) (choice : p.choice < h.choices) (here : index h.choices p ≡ i) (less : i < h.units * h.choices) where
  pub within : p.unit ≤ h.units
  within = unit_within h.units h.choices p.unit p.choice (omega arith)

  coding_here : coding_at b h p.unit p.choice ≡ job_coding (job_in b) (p.unit - 1) p.choice
  coding_here = rw (← o.header_is) ((looked_up b h o).coding p.unit p.choice unit (omega (arith, units_are b h o, within)) (omega (arith, choices_are b h o)))

  index_here : (p.unit - 1) * (job_in b).choices + p.choice ≡ i
  index_here = rw (choices_are b h o) here

  module _ (c : code.Coding) (e : coding_of c ≡ coding_at b h p.unit p.choice) where
    pub size_read : c.size ≡ get_or (sizes_in (job_in b)) i 0
    unfolding coding_of
    size_read =
        ap (λ (k : model.Coding). k.size) (e ∙ coding_here)
        ∙ sym (size_there (job_in b) (job_formed b h o) (p.unit - 1) p.choice (omega (arith, units_are b h o, within)) (omega (arith, choices_are b h o)))
        ∙ ap (λ (k : ℕ). get_or (sizes_in (job_in b)) k 0) index_here

    pub distortion_read : c.distortion ≡ get_or (distortions_in (job_in b)) i 0
    unfolding coding_of
    distortion_read =
        ap (λ (k : model.Coding). k.distortion) (e ∙ coding_here)
        ∙ sym (distortion_there (job_in b) (job_formed b h o) (p.unit - 1) p.choice (omega (arith, units_are b h o, within)) (omega (arith, choices_are b h o)))
        ∙ ap (λ (k : ℕ). get_or (distortions_in (job_in b)) k 0) index_here
