-- What the answers of this crate mean in the terms of `playlists`, case by case, and what its private functions say and ask.
use Rattle.std.specs.Prelude.{ℕ, ◌+◌, ◌*◌, ◌-◌, ◌<◌, ◌≤◌, ◌≡◌, Bool, true, leb, eqb, length, get_or, drop, if◌then◌else◌, Result, Ok, Err, Some, None}
use Rattle.std.specs.Prelude as std
use Rattle.std.specs.Option.{option_map_or}
use Rattle.std.proofs.Math.Option.{Option, none, some}
use mathlib.Core.List.{List, map, zip_with}
use Rattle.format.specs.Parser.{took}
use Rattle.format.specs.JobBytes as format
use Rattle.format.specs.JobBytes.{job_in, Opens, parse, opening}
use Rattle.interval.specs.declared.Totals.{Totals}
use Rattle.interval.specs.Answers.{totals_of}
use Rattle.planner.specs.declared.BucketLevels.{BucketLevels}
use Rattle.planner.specs.Answers.{levels_of_buckets}
use Rattle.playlists.specs.Calls as calls
use Rattle.playlists.specs.Calls.{Programme, programmes, Standing, at_first, stops, goes_on, finished, refused_list, refused_at, play}
use Rattle.playlist.specs.declared.Stopped.{Stopped}
use Rattle.playlist.specs.declared.Stopped.TheVariants as o
use Rattle.header.specs.declared.refusal.Refusal.{Refusal}
use Rattle.header.specs.Refusals.{number}
use Rattle.playlist.specs.declared.Standing as code

-- the answer, and the lists that were lent
abbrev pub outcome : Result (Unit {0}) Stopped → calls.Outcome
outcome (Ok u) = finished
outcome (Err (o.List r)) = refused_list (number r)
outcome (Err (o.Programme place r)) = refused_at place (number r)

unfoldable pub played : Result (Unit {0}) Stopped → List ℕ → List ℕ → List ℕ → calls.Played
played x table entries totals = record { answer = outcome x; table = table; entries = entries; totals = totals }

-- What the private functions say and ask.

abbrev pub programme : ℕ → ℕ → Programme
programme first size = record { first = first; size = size }

-- the levels that are carried, if a programme was planned
abbrev pub carried_by : std.Option BucketLevels → Option (List ℕ)
carried_by None = none
carried_by (Some l) = some (levels_of_buckets l)

unfoldable pub carries : code.Standing → Option (List ℕ)
carries s = carried_by s.levels

unfoldable pub stands : code.Standing → List ℕ → List ℕ → List ℕ → Standing
stands s table entries totals = record { done = s.done; used = s.used; carried = carries s; table = table; entries = entries; totals = totals }

-- a turn, from a standing, with the lists after it
unfoldable pub turned : Result code.Standing Refusal → code.Standing → List ℕ → List ℕ → List ℕ → calls.Turn
turned (Err r) s table entries totals = stops (number r) (stands s table entries totals)
turned (Ok next) s table entries totals = goes_on (stands next table entries totals)

-- the levels from which a programme with this header is planned
unfoldable pub starts_at : format.Header → code.Standing → List ℕ
starts_at h s = option_map_or levels_of_buckets s.levels (map (λ k. k.fill) h.buckets)

-- a level that lasts: what is drained is no more than what was there, came in and was made up for, and what remains is a level
pub record Lasts (level sent unused drained : ℕ) : Type 0 where
  pub no_more : drained ≤ level + sent + unused
  pub small : level + sent + unused - drained ≤ 255
  pub fits : level + sent + unused < 4294967296

-- the levels at which a plan with these totals ends, by the balance of each bucket
unfoldable pub led_by : format.Header → BucketLevels → Totals → List ℕ
led_by h l x = zip_with (λ (k : format.Policed) (p : ℕ). p - (h.units + h.delay) * k.drain) h.buckets (zip_with (λ (level unused : ℕ). level + (totals_of x).channel + unused) (levels_of_buckets l) (totals_of x).unused)

-- the second of them, where there is one
abbrev pub second_led : format.Header → BucketLevels → Totals → List ℕ
second_led h l x = drop 1 (led_by h l x)

-- whether a job has as many buckets as those before it, if there are any
abbrev pub alike : format.Header → code.Standing → Bool
alike h s = option_map_or (λ l. eqb (length (levels_of_buckets l)) (length h.buckets)) s.levels true

-- of each bucket
pub record LeadsTo (h : format.Header) (l : BucketLevels) (x : Totals) : Type 0 where
  pub few : h.units + h.delay ≤ 576
  pub levels : length (levels_of_buckets l) ≡ length h.buckets
  pub unused : length (totals_of x).unused ≡ length h.buckets
  pub drains : (i : ℕ) → i < length h.buckets → (get_or h.buckets i format.no_bucket).drain ≤ 4095
  pub lasts : (i : ℕ) → i < length h.buckets → Lasts (get_or (levels_of_buckets l) i 0) (totals_of x).channel (get_or (totals_of x).unused i 0) ((h.units + h.delay) * (get_or h.buckets i format.no_bucket).drain)

-- where the entries end that a programme's plan may take: nothing is left for it where its totals have no place
unfoldable pub end_for : code.Standing → ℕ → ℕ → ℕ
end_for s entries totals = if leb (5 * (s.done + 1)) totals then entries else s.used

-- plans that do not pass the list, of fewer programmes than a list has at most
pub record Room (s : code.Standing) (entries : List ℕ) : Type 0 where
  pub used : s.used ≤ length entries
  pub few : s.done + 1 ≤ 64

-- a programme that opens: as many buckets as levels are carried, if any are
pub record Opened (b : List ℕ) (h : format.Header) (s : code.Standing) : Type 0 where
  pub opens : Opens b h
  pub drains : (k : ℕ) × (parse opening b ≡ took (job_in b) k)
  pub alike : length (starts_at h s) ≡ length h.buckets

-- a list of so many programmes
pub record Going (ns : List ℕ) (count : ℕ) : Type 0 where
  pub paired : length ns ≡ 2 * count
  pub few : count ≤ 64

-- the programmes in turn
unfoldable pub runs : List ℕ → List ℕ → List ℕ → List ℕ → List ℕ → calls.Played
runs b ns table entries totals = play b (programmes ns) (at_first table entries totals)
