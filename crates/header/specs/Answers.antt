-- What the structs of a header and a verdict mean in the terms of the crates below.
use Rattle.std.specs.Prelude.{ℕ, Bool, List, [], ◌∷◌, if◌then◌else◌, Some, None, Ok, Err}
use Rattle.std.specs.Prelude as std
use Rattle.std.proofs.Math.Option.{Option, none, some}
use Rattle.model.specs.Job as model
use Rattle.format.specs.JobBytes as format
use Rattle.header.specs.declared.Bucket.{Bucket}
use Rattle.header.specs.declared.Header.{Header}
use Rattle.header.specs.declared.Coding.{Coding}
use Rattle.header.specs.declared.Door.{Door}
use Rattle.header.specs.declared.Door.TheVariants as d
use Rattle.header.specs.declared.refusal.Refusal.{Refusal}
use Rattle.header.specs.Refusals.{number}
use Rattle.base.specs.Answer.{Answer, gives, refused}

-- how many buckets a header has beside the first
unfoldable pub extra : Bool → ℕ
extra two = if two then 1 else 0

-- the header that a struct holds, and the coding
unfoldable pub policed_of : Bucket → format.Policed
policed_of k = record { size = k.size; drain = k.drain; fill = k.fill }

abbrev pub further : std.Option Bucket → List format.Policed
further None = []
further (Some k) = policed_of k ∷ []

unfoldable pub plain : Header → format.Header
plain h = record {
  units = h.units;
  delay = h.delay;
  decoder = h.decoder;
  level = h.level;
  buckets = policed_of h.first ∷ further h.second;
  rates = h.rates;
  choices = h.choices;
}

unfoldable pub coding_of : Coding → model.Coding
coding_of c = record { size = c.size; distortion = c.distortion }

unfoldable pub door_of : Door → format.Door
door_of d.Opening = format.opening
door_of d.Archive = format.archive

-- what a call answers: what it gives, or the refusal's number
abbrev pub answer_by : {A B : Type 0} → (A → B) → std.Result A Refusal → Answer B
answer_by f (Ok a) = gives (f a)
answer_by f (Err r) = refused (number r)

-- the same of a call that gives nothing
abbrev pub done : std.Result (Unit {0}) Refusal → Answer (Unit {0})
done = answer_by (λ u. u)

-- the refusal's number, if there is one
abbrev pub verdict : {A : Type 0} → std.Result A Refusal → Option ℕ
verdict (Ok a) = none
verdict (Err r) = some (number r)
