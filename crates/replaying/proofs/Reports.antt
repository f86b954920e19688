-- Replay and report are refused in document 01's order, and else are as claimed: `ReplayCalls` and `Reports`; and a refusal keeps the list: `Keeps`.
use Prim.Native.Nat.{ℕ, suc, ◌+◌, ◌*◌, ◌≤◌}
use mathlib.Core.Path.{◌≡◌, refl, ◌∙◌, ap}
use mathlib.Core.Logic.{◌↔◌}
use mathlib.Core.Bool.{true}
use mathlib.Core.List.{List, [], ◌∷◌}
use native.Mathlib.Omega.{arith}
use lib.Dec.{leb}
use lib.ListN.{length}
use borrow.Author.Tests.{leb-true, le-leb}
use Rattle.base.specs.Lists.{build}
use Rattle.base.specs.Refusals.{condition}
use Rattle.base.specs.Lent.{Ended, refuse, Keeping}
use Rattle.base.proofs.Builds.{build_length, build_at}
use Rattle.base.proofs.Refusals.{Decides, no_more, one_more, Guarded, was_refused, was_done, guarded_is}
use Rattle.base.proofs.Lent.{over_length, over_here, over_rest, refuse_keeps, gives_keeps}
use Rattle.model.specs.Job.{Job, intervals}
use Rattle.model.specs.Pins.{no_pins}
use Rattle.model.specs.Levels.{effective_buffer, effective_buffers}
use Rattle.format.specs.Parser.{Result, refused, took, on_read}
use Rattle.format.specs.JobBytes.{parse, archive}
use Rattle.format.proofs.Parsing.{looks_read}
use Rattle.format.proofs.Bounds.{limited}
use Rattle.format.proofs.Places.{well_read}
use Rattle.pinning.specs.PinSet.{lines}
use Rattle.pinning.specs.Check.{checked}
use Rattle.pinning.specs.Calls.{Opening, open_call}
use Rattle.pinning.proofs.Agree.{looks_checked}
use Rattle.pinning.proofs.History.{fresh_pins}
use Rattle.pinning.proofs.Archive.{archived_sets}
use Rattle.replaying.specs.Entries.{plan_of}
use Rattle.replaying.specs.Calls.{level_count, played, replay_tests, replay_call, reported, report_tests, report_call}
use Rattle.replaying.specs.Former.{turn_tests, turned, turn_call}
use Rattle.replaying.specs.Claims.{InShape, Reported, DemandTwo, ReplayCalls, ArchiveReplays, Reports, Keeps}
use Rattle.replaying.proofs.Entries.{plan_bytes}
use Rattle.replaying.proofs.DemandTwo.{played_claim}

-- the report of a plan in shape, in a list that is long enough
reported_claim : (j : Job) (entries sums : List ℕ) → length j.units + 1 ≤ length sums → Reported j (plan_of j entries) sums (reported j entries sums)
unfolding reported effective_buffers
reported_claim j entries sums room =
    let size = build_length (suc (length j.units)) (effective_buffer j (plan_of j entries)) in
    let fits : length (build (suc (length j.units)) (effective_buffer j (plan_of j entries))) ≤ length sums = omega arith in
    record {
      given = refl;
      sum = λ i h. over_here _ sums fits i (omega arith) ∙ build_at (suc (length j.units)) (effective_buffer j (plan_of j entries)) i (omega arith);
      rest = over_rest _ sums fits (suc (length j.units)) size;
      size = over_length _ sums fits;
    }

-- a list of at least so many numbers
levels_decide : (j : Job) (levels : List ℕ) → (leb (level_count j) (length levels) ≡ true) ↔ ((1 + length j.line.buckets) * intervals j ≤ length levels)
unfolding level_count
levels_decide j levels = (λ q. omega (arith, leb-true (suc (length j.line.buckets) * intervals j) (length levels) q), λ q. le-leb (suc (length j.line.buckets) * intervals j) (length levels) (omega arith))

-- what replay is tested for, of a job that opens
pub replay_decides : (b : List ℕ) (j : Job) (k : ℕ) → parse archive b ≡ took j k → (entries levels : List ℕ) → Decides (replay_tests j entries (length levels)) (condition 14 (InShape j entries) ∷ condition 12 ((1 + length j.line.buckets) * intervals j ≤ length levels) ∷ [])
unfolding replay_tests
replay_decides b j k e entries levels = one_more refl ((plan_bytes b j k e).shaped_iff entries) (one_more refl (levels_decide j levels) no_more)

pub replay_calls : ReplayCalls
unfolding replay_call
replay_calls b s entries levels =
    looks_checked (refuse levels) archive b s (λ j. replay_tests j entries (length levels)) (λ j. condition 14 (InShape j entries) ∷ condition 12 ((1 + length j.line.buckets) * intervals j ≤ length levels) ∷ []) (λ j. played j (lines (length j.units) s.pins) entries levels) (λ j r. DemandTwo j (lines (length j.units) s.pins) (plan_of j entries) levels r)
    (λ j k e m. (replay_decides b j k e entries levels, λ h. played_claim b j k e (lines (length j.units) s.pins) entries levels h.0 h.1.0))

pub archive_replays : ArchiveReplays
archive_replays b j n e entries levels shape room =
    let a = archived_sets b j n e in
    let pins : lines (length j.units) (open_call archive b).set.pins ≡ no_pins (length j.units) = ap (λ (o : Opening). lines (length j.units) o.set.pins) a.answers ∙ fresh_pins j (limited j (well_read archive b j n e).well_formed) in
    rw pins at (((((replay_calls b (open_call archive b).set entries levels).1 j n e).1 a.matches).1 shape).1 room)

pub reports : Reports
unfolding report_call report_tests
reports b entries sums =
    looks_read (refuse sums) (parse archive b) (λ j. report_tests j entries (length sums)) (λ j. condition 14 (InShape j entries) ∷ condition 12 (length j.units + 1 ≤ length sums) ∷ []) (λ j. reported j entries sums) (λ j r. Reported j (plan_of j entries) sums r)
    (λ j k e. (one_more refl ((plan_bytes b j k e).shaped_iff entries) (one_more refl (λ q. omega (arith, leb-true (suc (length j.units)) (length sums) q), λ q. le-leb (suc (length j.units)) (length sums) (omega arith)) no_more), λ h. reported_claim j entries sums h.1.0))

module _ {A : Type 0} (list : List ℕ) where
  guarded_keeps : (r q : Ended A) → Keeping list r → Guarded (refuse list) r q → Keeping list q
  guarded_keeps r q h (was_refused n) = refuse_keeps list n
  guarded_keeps r q h was_done = h

  pub read_keeps : {B : Type 0} (f : B → Ended A) (r : Result B) → ((a : B) → Keeping list (f a)) → Keeping list (on_read (refuse list) r f)
  unfolding on_read
  read_keeps f (refused n) h = refuse_keeps list n
  read_keeps f (took a k) h = h a

pub keeps : Keeps
unfolding replay_call report_call turn_call played reported turned
keeps b s entries list = (
  read_keeps list _ (checked archive b s) (λ j. guarded_keeps list _ _ (gives_keeps list _ _) (guarded_is (refuse list) (replay_tests j entries (length list)) (played j (lines (length j.units) s.pins) entries list))),
  read_keeps list _ (parse archive b) (λ j. guarded_keeps list _ _ (gives_keeps list _ _) (guarded_is (refuse list) (report_tests j entries (length list)) (reported j entries list))),
  read_keeps list _ (parse archive b) (λ j. guarded_keeps list _ _ (gives_keeps list _ _) (guarded_is (refuse list) (turn_tests j entries (length list)) (turned j entries list))),
)
