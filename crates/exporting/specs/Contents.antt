-- What the exported reading of a job answers and leaves: the job back as the header's fields, the rates, and the sizes and distortions by unit and choice, unit after unit, as the writer takes them (document 02, E1).
use Rattle.std.specs.Prelude.{ℕ, List, [], ◌∷◌, leb, length}
use Rattle.base.specs.Refusals.{Test, test, guarded}
use Rattle.base.specs.Lent.{over}
use Rattle.model.specs.Job.{Job}
use Rattle.format.specs.Parser.{on_took}
use Rattle.format.specs.JobBytes.{header_values, header_in, Door, parse}
use Rattle.writing.specs.Lists.{sizes_in, distortions_in}

pub record Contents : Type 0 where
  pub number : ℕ
  pub fields : List ℕ
  pub rates : List ℕ
  pub sizes : List ℕ
  pub distortions : List ℕ
  pub values : List ℕ

abbrev pub contents : ℕ → List ℕ → List ℕ → List ℕ → List ℕ → List ℕ → Contents
contents n fields rates sizes distortions values = record { number = n; fields = fields; rates = rates; sizes = sizes; distortions = distortions; values = values }

-- how many bytes the job took, and how many fields its header has
unfoldable pub read_values : Job → ℕ → List ℕ
read_values j taken = taken ∷ length (header_values (header_in j)) ∷ []

module _ (fields rates sizes distortions values : List ℕ) where
  -- refused: the lists as they came
  abbrev pub unread : ℕ → Contents
  unread n = contents n fields rates sizes distortions values

  -- 12: a list is too short for what the job holds
  unfoldable pub read_tests : Job → List Test
  read_tests j =
      test 12 (leb (length (header_values (header_in j))) (length fields))
      ∷ test 12 (leb (length j.line.rates) (length rates))
      ∷ test 12 (leb (length (sizes_in j)) (length sizes))
      ∷ test 12 (leb (length (distortions_in j)) (length distortions))
      ∷ test 12 (leb 2 (length values))
      ∷ []

  -- the job's own over the first numbers of each list
  unfoldable pub held : Job → ℕ → Contents
  held j taken =
      contents 0
      (over (header_values (header_in j)) fields)
      (over j.line.rates rates)
      (over (sizes_in j) sizes)
      (over (distortions_in j) distortions)
      (over (read_values j taken) values)

  -- 12, or the job
  unfoldable pub read_held : Job → ℕ → Contents
  read_held j taken = guarded unread (read_tests j) (held j taken)

  -- the job by its door, 1 to 5 and 17, then 12
  unfoldable pub read_export : Door → List ℕ → Contents
  read_export d b = on_took unread (parse d b) read_held
