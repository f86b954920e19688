-- A job as a header and three lists: the rates, and the sizes and the distortions by unit and choice, unit after unit (document 02, E1).
use Rattle.std.specs.Prelude.{ℕ, zero, suc, take, drop}
use mathlib.Core.List.{List, [], ◌∷◌, ◌++◌, map, zip_with}
use Rattle.model.specs.Job.{Coding, Job}
use Rattle.format.specs.JobBytes.{Header, job_of}

-- lists one after another as one list, and back: n lists of m each
unfoldable pub joined : {A : Type 0} → List (List A) → List A
joined [] = []
joined (l ∷ ls) = l ++ joined ls

unfoldable pub parted : {A : Type 0} → ℕ → ℕ → List A → List (List A)
parted zero m l = []
parted (suc n) m l = take m l ∷ parted n m (drop m l)

-- the two lists of a job
unfoldable pub sizes_in : Job → List ℕ
sizes_in j = map (λ c. c.size) (joined j.units)

unfoldable pub distortions_in : Job → List ℕ
distortions_in j = map (λ c. c.distortion) (joined j.units)

-- a size and the distortion in the same place are one coding
unfoldable pub codings_from : List ℕ → List ℕ → List Coding
codings_from sizes distortions = zip_with (λ s d. record { size = s; distortion = d }) sizes distortions

-- the job of a header and lists
unfoldable pub job_from : Header → List ℕ → List ℕ → List ℕ → Job
job_from h rates sizes distortions = job_of h rates (parted h.units h.choices (codings_from sizes distortions))
