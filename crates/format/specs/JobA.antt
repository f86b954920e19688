-- Job A of document 01: N 2, d 1, D 4, K 3, drain 2, both starting levels 0, rates 0, 2, 4, two choices. Unit 1: 4 grains distortion 10; 2 grains distortion 30. Unit 2: 5 and 12; 2 and 40.
use Rattle.std.specs.Prelude.{ℕ, List, [], ◌∷◌, drop}
use Rattle.model.specs.Job.{Coding, Job}
use Rattle.format.specs.JobBytes.{Header, job_of}

unfoldable pub header_a : Header
header_a = record { units = 2; delay = 1; decoder = 4; level = 0; buckets = record { size = 3; drain = 2; fill = 0 } ∷ []; rates = 3; choices = 2 }

unfoldable pub coded : ℕ → ℕ → Coding
coded s d = record { size = s; distortion = d }

unfoldable pub job_a : Job
job_a = job_of header_a (0 ∷ 2 ∷ 4 ∷ []) ((coded 4 10 ∷ coded 2 30 ∷ []) ∷ (coded 5 12 ∷ coded 2 40 ∷ []) ∷ [])

-- its 64 bytes: the header's record, the rates', and one for each unit
unfoldable pub bytes_a : List ℕ
bytes_a =
    20 ∷ 0 ∷ 1 ∷ 0 ∷ 2 ∷ 0 ∷ 1 ∷ 0 ∷ 4 ∷ 0 ∷ 3 ∷ 0 ∷ 2 ∷ 0 ∷ 0 ∷ 0 ∷ 0 ∷ 0 ∷ 3 ∷ 0 ∷ 2 ∷ 0
    ∷ 8 ∷ 0 ∷ 2 ∷ 0 ∷ 0 ∷ 0 ∷ 2 ∷ 0 ∷ 4 ∷ 0
    ∷ 14 ∷ 0 ∷ 3 ∷ 0 ∷ 4 ∷ 0 ∷ 10 ∷ 0 ∷ 0 ∷ 0 ∷ 2 ∷ 0 ∷ 30 ∷ 0 ∷ 0 ∷ 0
    ∷ 14 ∷ 0 ∷ 3 ∷ 0 ∷ 5 ∷ 0 ∷ 12 ∷ 0 ∷ 0 ∷ 0 ∷ 2 ∷ 0 ∷ 40 ∷ 0 ∷ 0 ∷ 0 ∷ []

-- Job A as kind 8 of document 02, E5: the same with a second bucket
unfoldable pub header_a8 : ℕ → ℕ → ℕ → Header
header_a8 size drain fill = record { units = 2; delay = 1; decoder = 4; level = 0; buckets = record { size = 3; drain = 2; fill = 0 } ∷ record { size = size; drain = drain; fill = fill } ∷ []; rates = 3; choices = 2 }

unfoldable pub bytes_a8 : ℕ → ℕ → ℕ → List ℕ
bytes_a8 size drain fill =
    26 ∷ 0 ∷ 8 ∷ 0 ∷ 2 ∷ 0 ∷ 1 ∷ 0 ∷ 4 ∷ 0 ∷ 3 ∷ 0 ∷ 2 ∷ 0 ∷ 0 ∷ 0 ∷ 0 ∷ 0 ∷ 3 ∷ 0 ∷ 2 ∷ 0 ∷ size ∷ 0 ∷ drain ∷ 0 ∷ fill ∷ 0
    ∷ drop 22 bytes_a

-- Job E, for even pictures (document 02, E7): Job A with K 1 and unit 2 of 4 or 2 grains, whose distortions are given. A bucket of 1 takes no more than 2 grains an interval, so that 6 arrive in all: one unit has its 4 grains, and the other 2
unfoldable pub bytes_e : ℕ → ℕ → List ℕ
bytes_e fine coarse =
    20 ∷ 0 ∷ 1 ∷ 0 ∷ 2 ∷ 0 ∷ 1 ∷ 0 ∷ 4 ∷ 0 ∷ 1 ∷ 0 ∷ 2 ∷ 0 ∷ 0 ∷ 0 ∷ 0 ∷ 0 ∷ 3 ∷ 0 ∷ 2 ∷ 0
    ∷ 8 ∷ 0 ∷ 2 ∷ 0 ∷ 0 ∷ 0 ∷ 2 ∷ 0 ∷ 4 ∷ 0
    ∷ 14 ∷ 0 ∷ 3 ∷ 0 ∷ 4 ∷ 0 ∷ 10 ∷ 0 ∷ 0 ∷ 0 ∷ 2 ∷ 0 ∷ 30 ∷ 0 ∷ 0 ∷ 0
    ∷ 14 ∷ 0 ∷ 3 ∷ 0 ∷ 4 ∷ 0 ∷ fine ∷ 0 ∷ 0 ∷ 0 ∷ 2 ∷ 0 ∷ coarse ∷ 0 ∷ 0 ∷ 0 ∷ []
