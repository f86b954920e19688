-- How many numbers the totals have that a call gives: one for each bucket of the job's line beside those that every job has.
use Prim.Native.Nat.{ℕ, ◌≤◌}
use mathlib.Core.Path.{◌≡◌, refl, sym, ◌∙◌, ap, subst}
use mathlib.Core.Option.{Option, none, some}
use mathlib.Core.List.{List, [], ◌∷◌, zip_with}
use native.Mathlib.Omega.{arith}
use lib.ListN.{length}
use Rattle.base.specs.Answer.{Answer, refused, gives}
use Rattle.base.specs.Refusals.{Test, guarded}
use Rattle.base.specs.Lent as lent
use Rattle.base.proofs.Answers.{not_refused, gives_same}
use Rattle.base.proofs.Refusals.{Guarded, was_refused, was_done, guarded_is}
use Rattle.model.specs.Job.{Levels, Job, Entry}
use Rattle.model.specs.Pins.{PinMap}
use Rattle.model.specs.Levels.{unused_totals}
use Rattle.model.specs.Replay.{Totals, totals, plus_each, plus, Result, clean, stopped, replay}
use Rattle.model.specs.Best.{Order, least_total, Aim, open_for}
use Rattle.format.specs.Parser as P
use Rattle.format.specs.Parser.{on_read}
use Rattle.format.specs.JobBytes.{Door, opening, archive, parse}
use Rattle.format.proofs.Places.{well_read}
use Rattle.format.proofs.Opened.{held_job}
use Rattle.pinning.specs.PinSet.{PinSet, lines}
use Rattle.pinning.specs.Check.{checked}
use Rattle.model.proofs.Drains.{zip_length}
use Rattle.replaying.specs.Calls.{Replayed, totals_are, replayed, played, replay_call}
use Rattle.replaying.specs.Entries.{plan_of}
use Rattle.pinning.proofs.Agree.{checked_parsed}
use Rattle.planning.specs.Calls as p
use Rattle.planning.specs.Calls.{searched, search_in, plan_in, plan_call}
use Rattle.changing.specs.NewContract.{Contract}
use Rattle.changing.specs.Calls.{both_totals, behind, change_in, change_call}
use Rattle.calling.specs.Sessions as s
use Rattle.calling.specs.Sessions.{made, aim_named, order_named, planned_after, session_call, replay_session}
use Rattle.values.specs.Lists.{buckets_in}

-- totals have a number for each bucket
totals_count : (j : Job) (start : Levels) (q : List Entry) → length start.buckets ≡ length j.line.buckets → length (totals j 0 start q).unused ≡ length j.line.buckets
unfolding totals unused_totals
totals_count j start q e = zip_length _ j.line.buckets start.buckets e

abbrev pub Counts : ℕ → Answer Totals → Type 0
Counts n a = (t : Totals) → a ≡ gives t → length t.unused ≡ n

no_count : (n m : ℕ) → Counts n (refused m)
no_count n m t e = absurd (not_refused (sym e))

-- what holds of every refusal and of the work holds of the answer
guarded_all : {R : Type 0} (Q : R → Type 0) (refuse : ℕ → R) (ts : List Test) (work : R) → ((n : ℕ) → Q (refuse n)) → Q work → Q (guarded refuse ts work)
guarded_all {R} Q refuse ts work f g = go (guarded refuse ts work) (guarded_is refuse ts work)
  where
    go : (r : R) → Guarded refuse work r → Q r
    go r (was_refused n) = f n
    go r was_done = g

read_all : {A R : Type 0} (Q : R → Type 0) (refuse : ℕ → R) (q : P.Result A) (f : A → R) → ((n : ℕ) → Q (refuse n)) → ((a : A) (k : ℕ) → q ≡ P.took a k → Q (f a)) → Q (on_read refuse q f)
unfolding on_read
read_all Q refuse (P.refused n) f h g = h n
read_all Q refuse (P.took a k) f h g = g a k refl

of_job : (d : Door) (b : List ℕ) (j : Job) (k : ℕ) → parse d b ≡ P.took j k → length j.line.buckets ≡ buckets_in b
of_job d b j k e = sym (ap (λ (i : Job). length i.line.buckets) (held_job d b j k e))

-- of planning
search_counts : (j : Job) (m : PinMap) (a : Aim) (o : Order) (table entries : List ℕ) → length j.start.buckets ≡ length j.line.buckets → Counts (length j.line.buckets) (search_in j m a o 0 j.start table entries).answer
unfolding search_in
search_counts j m a o table entries e = go (least_total j (open_for a j m 0 j.start) 0 j.start)
  where
    go : (v : Option ℕ) → Counts (length j.line.buckets) (searched j (open_for a j m 0 j.start) o 0 j.start v table entries).answer
    go none = unfold searched in (no_count _ 13)
    go (some v) = unfold searched in (λ t q. ap (λ (x : Totals). length x.unused) (sym (gives_same q)) ∙ totals_count j j.start _ e)

-- of a change of contract: the totals of both parts have no more than those of the first
plus_count : (us vs : List ℕ) → length (plus_each us vs) ≤ length us
unfolding plus_each zip_with
plus_count [] vs = omega arith
plus_count (u ∷ us) [] = omega arith
plus_count (u ∷ us) (v ∷ vs) = omega (arith, plus_count us vs)

abbrev pub FewCounts : ℕ → Answer Totals → Type 0
FewCounts n a = (t : Totals) → a ≡ gives t → length t.unused ≤ n

no_few : (n m : ℕ) → FewCounts n (refused m)
no_few n m t e = absurd (not_refused (sym e))

both_count : (n : ℕ) (before : Totals) → length before.unused ≡ n → (a : Answer Totals) → FewCounts n (both_totals before a)
unfolding both_totals
both_count n before e (refused m) = no_few n m
both_count n before e (gives rest) = λ t q. omega (arith, ap (λ (x : Totals). length x.unused) (gives_same q), least)
  where
    least : length (plus before rest).unused ≤ n
    least = unfold plus in (omega (arith, plus_count before.unused rest.unused))

module _ (b : List ℕ) where
  pub change_counts : (set : PinSet) (old : List ℕ) (first : ℕ) (c : Contract) (o : Order) (table entries : List ℕ) → FewCounts (buckets_in b) (change_call b set old first c o table entries).answer
  unfolding change_call change_in behind p.refuse
  change_counts set old first c o table entries =
      read_all (λ (x : p.Planned). FewCounts (buckets_in b) x.answer) (p.refuse table entries) (checked opening b set) _ (λ n. no_few _ n)
      (λ j k e.
      let q : parse opening b ≡ P.took j k = checked_parsed opening b set j k e in
      guarded_all (λ (x : p.Planned). FewCounts (buckets_in b) x.answer) (p.refuse table entries) _ _ (λ n. no_few _ n) (both_count (buckets_in b) _ (totals_count j j.start _ (well_read opening b j k q).well_formed.fills ∙ of_job opening b j k q) _))

  pub plan_counts : (set : PinSet) (a : Aim) (o : Order) (table entries : List ℕ) → Counts (buckets_in b) (plan_call b set a o table entries).answer
  unfolding plan_call plan_in p.refuse
  plan_counts set a o table entries =
      read_all (λ (x : p.Planned). Counts (buckets_in b) x.answer) (p.refuse table entries) (checked opening b set) _ (λ n. no_count _ n)
      (λ j k e.
      let q : parse opening b ≡ P.took j k = checked_parsed opening b set j k e in
      guarded_all (λ (x : p.Planned). Counts (buckets_in b) x.answer) (p.refuse table entries) _ _ (λ n. no_count _ n)
      (subst (λ (n : ℕ). Counts n (search_in j (lines (length j.units) set.pins) a o 0 j.start table entries).answer) (of_job opening b j k q) (search_counts j _ a o table entries (well_read opening b j k q).well_formed.fills)))

  pub session_counts : (calls : List ℕ) (aim order : ℕ) (answers table entries : List ℕ) → Counts (buckets_in b) (session_call b calls aim order answers table entries).planned.answer
  unfolding session_call planned_after s.refuse p.refuse
  session_counts calls aim order answers table entries =
      read_all (λ (x : s.Session). Counts (buckets_in b) x.planned.answer) (s.refuse answers table entries) (parse opening b) _ (λ n. no_count _ n)
      (λ j k e. guarded_all (λ (x : s.Session). Counts (buckets_in b) x.planned.answer) (s.refuse answers table entries) _ _ (λ n. no_count _ n) (plan_counts (made opening b calls).set (aim_named aim) (order_named order) table entries))

  -- of a replay
  abbrev pub ReplayCounts : Answer Replayed → Type 0
  ReplayCounts a = (t : Totals) → a ≡ gives (totals_are t) → length t.unused ≡ buckets_in b

  no_replay : (n : ℕ) → ReplayCounts (refused n)
  no_replay n t e = absurd (not_refused (sym e))

  played_counts : (j : Job) (m : PinMap) (entries levels : List ℕ) → length j.line.buckets ≡ buckets_in b → length j.start.buckets ≡ length j.line.buckets → ReplayCounts (played j m entries levels).answer
  unfolding played
  played_counts j m entries levels q e t a = go (replay j m 0 j.start (plan_of j entries)).result (gives_same a)
    where
      go : (x : Result) → replayed (totals j 0 j.start (plan_of j entries)) x ≡ totals_are t → length t.unused ≡ buckets_in b
      go clean a = ap (λ (y : Totals). length y.unused) (sym (same a)) ∙ totals_count j j.start (plan_of j entries) e ∙ q
        where
          same : replayed (totals j 0 j.start (plan_of j entries)) clean ≡ totals_are t → totals j 0 j.start (plan_of j entries) ≡ t
          same a = unfold replayed in cc
      go (stopped n v) a = absurd (let z : ◌≡◌ {A = ℕ} 0 1 = unfold replayed in cc in omega arith)

  pub set_counts : (set : PinSet) (entries levels : List ℕ) → ReplayCounts (replay_call b set entries levels).answer
  unfolding replay_call lent.refuse
  set_counts set entries levels =
      read_all (λ (x : lent.Ended Replayed). ReplayCounts x.answer) (lent.refuse levels) (checked archive b set) _ no_replay
      (λ j k e.
      let q : parse archive b ≡ P.took j k = checked_parsed archive b set j k e in
      guarded_all (λ (x : lent.Ended Replayed). ReplayCounts x.answer) (lent.refuse levels) _ _ no_replay (played_counts j _ entries levels (of_job archive b j k q) (well_read archive b j k q).well_formed.fills))

  pub replay_counts : (calls entries levels : List ℕ) → ReplayCounts (replay_session b calls entries levels).answer
  unfolding replay_session lent.refuse
  replay_counts calls entries levels =
      read_all (λ (x : lent.Ended Replayed). ReplayCounts x.answer) (lent.refuse levels) (parse archive b) _ no_replay
      (λ j k e. guarded_all (λ (x : lent.Ended Replayed). ReplayCounts x.answer) (lent.refuse levels) _ _ no_replay (set_counts (made archive b calls).set entries levels))
