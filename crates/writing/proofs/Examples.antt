-- Worked examples: Job A of document 01, written from its header and lists, and one refusal of each number.
use Prim.Native.Nat.{ℕ}
use mathlib.Core.Path.{◌≡◌, refl}
use mathlib.Core.List.{List, [], ◌∷◌, ◌++◌, map, zip_with}
use lib.ListN.{replicate}
use Rattle.base.specs.Answer.{Answer, refused, gives}
use Rattle.base.specs.Refusals.{refusal, unless, guarded}
use Rattle.base.specs.Lent.{over, refuse}
use Rattle.format.specs.JobBytes.{Header, computes}
use Rattle.format.specs.JobA.{header_a, bytes_a}
use Rattle.writing.specs.Lists.{parted, codings_from, job_from}
use Rattle.writing.specs.Calls.{write_limits, room_tests, write_in, write_call}

-- its 64 bytes, in a list of 66
writes_a : write_call header_a (0 ∷ 2 ∷ 4 ∷ []) (4 ∷ 2 ∷ 5 ∷ 2 ∷ []) (10 ∷ 30 ∷ 12 ∷ 40 ∷ []) (replicate 66 7) ≡ record { answer = gives 64; list = bytes_a ++ (7 ∷ 7 ∷ []) }
unfolding computes header_a bytes_a zip_with parted codings_from job_from write_limits room_tests write_in refusal guarded unless write_call over refuse
writes_a = refl

-- what is wrong, and the number: nothing but the output, a coding, a rate as well, a length as well, the header as well
unfoldable spoiled : Header
spoiled = record { units = 2; delay = 65; decoder = 4; level = 0; buckets = record { size = 3; drain = 2; fill = 0 } ∷ []; rates = 3; choices = 2 }

abbrev number : Header → List ℕ → List ℕ → List ℕ → Answer ℕ
number h rates sizes distortions = (write_call h rates sizes distortions (replicate 63 7)).answer

refuses_a :
    ◌≡◌ {A = List (Answer ℕ)}
    (number header_a (0 ∷ 2 ∷ 4 ∷ []) (4 ∷ 2 ∷ 5 ∷ 2 ∷ []) (10 ∷ 30 ∷ 12 ∷ 40 ∷ [])
    ∷ number header_a (0 ∷ 2 ∷ 4 ∷ []) (4 ∷ 2 ∷ 5 ∷ 2 ∷ []) (10 ∷ 30 ∷ 12 ∷ 1000001 ∷ [])
    ∷ number header_a (0 ∷ 2 ∷ 2 ∷ []) (4 ∷ 2 ∷ 5 ∷ 2 ∷ []) (10 ∷ 30 ∷ 12 ∷ 1000001 ∷ [])
    ∷ number header_a (0 ∷ 2 ∷ 2 ∷ []) (4 ∷ 2 ∷ 5 ∷ []) (10 ∷ 30 ∷ 12 ∷ 1000001 ∷ [])
    ∷ number spoiled (0 ∷ 2 ∷ 2 ∷ []) (4 ∷ 2 ∷ 5 ∷ []) (10 ∷ 30 ∷ 12 ∷ 1000001 ∷ [])
    ∷ [])
    (map refused (12 ∷ 5 ∷ 4 ∷ 16 ∷ 3 ∷ []))
unfolding computes header_a spoiled zip_with parted codings_from job_from write_limits room_tests write_in refusal guarded unless write_call over refuse
refuses_a = refl
