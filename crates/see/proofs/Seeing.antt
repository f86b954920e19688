-- What a call that sees answers, from what the pin or the lift under it answered.
use Prim.Native.Nat.{ℕ, ◌<◌, ◌≤◌}
use mathlib.Core.Path.{◌≡◌, refl, sym, ◌∙◌, ap}
use mathlib.Core.Option.{Option, none, some}
use mathlib.Core.List.{List, [], ◌∷◌}
use native.Mathlib.Omega.{arith}
use lib.Dec.{leb}
use lib.ListN.{length}
use borrow.Author.Tests.{lt-leb, le-leb}
use Rattle.base.specs.Answer.{refused, gives}
use Rattle.base.specs.Refusals.{test, refusal, unless, guarded}
use Rattle.base.proofs.Refusals.{not_none, some_same, refusal_here, refusal_last, refusal_join, none_refuses, AllHold}
use Rattle.model.specs.Job.{Job}
use Rattle.model.specs.Pins.{PinMap, Call, pin, lift}
use Rattle.model.specs.Table.{words}
use Rattle.format.specs.Parser as P
use Rattle.format.specs.Parser.{Result, took, on_read}
use Rattle.format.specs.JobBytes.{opening, parse, job_in}
use Rattle.format.proofs.Bounds.{limited}
use Rattle.format.proofs.Opened.{held_job, units_are}
use Rattle.format.proofs.Places.{well_read}
use Rattle.pinning.specs.PinSet.{PinSet, lines}
use Rattle.pinning.specs.Check.{checked, Ready}
use Rattle.pinning.specs.Calls.{Handed, refuse, take_in, called, call_tests, call_in, call, click_tests}
use Rattle.pinning.specs.Claims.{CallAsks}
use Rattle.pinning.proofs.Agree.{checked_parsed, passes_matches}
use Rattle.pinning.proofs.History.{Holds, matches_holds, call_follows, holds_checked}
use Rattle.pinning.proofs.Refusals.{call_decides}
use Rattle.pinset.proofs.Answering.{ready}
use Rattle.table.specs.Answers.{table_words}
use Rattle.table.proofs.Words.{words_are}
use Rattle.planning.specs.See.{keep, unit_of, seen, see_in, see_call}
use Rattle.planning.specs.Seeing.{refused_by}
use Rattle.see.specs.Answers.{Renews, Renewed}

-- a call for a job that the set matches
module _ (j : Job) (s : PinSet) (k : Call) (table : List ℕ) where
  -- its own refusal is handed on
  see_refused_in : (o : Option ℕ) → refusal (call_tests j s k) ≡ o → (n : ℕ) (t : PinSet) → record { refused = some n; set = t } ≡ unless (refuse s) o (take_in (called j s k)) → record { answer = refused n; set = t; table = table } ≡ see_in j s k table
  unfolding unless refuse take_in see_in guarded click_tests keep
  see_refused_in none q n t e = absurd (not_none (ap (λ (h : Handed). h.refused) e))
  see_refused_in (some x) q n t e =
      let same : n ≡ x = some_same (ap (λ (h : Handed). h.refused) e) in
      let own : t ≡ s = ap (λ (h : Handed). h.set) e in
      rw (refusal_join (call_tests j s k) (test 11 (leb (words j) (length table)) ∷ []), q, same, own) refl

  -- a call that is taken: 11, or the table
  module _ (q : refusal (call_tests j s k) ≡ none) where
    see_on : see_in j s k table ≡ unless (keep s table) (refusal (test 11 (leb (words j) (length table)) ∷ [])) (seen j (called j s k) (unit_of k) table)
    unfolding see_in guarded click_tests unless
    see_on = rw (refusal_join (call_tests j s k) (test 11 (leb (words j) (length table)) ∷ []), q)

    see_short : length table < words j → keep s table 11 ≡ see_in j s k table
    unfolding unless
    see_short l = sym (see_on ∙ rw (refusal_here (test 11 (leb (words j) (length table))) [] (lt-leb (words j) (length table) l)))

    see_done : words j ≤ length table → seen j (called j s k) (unit_of k) table ≡ see_in j s k table
    unfolding unless
    see_done l = sym (see_on ∙ rw (refusal_last (test 11 (leb (words j) (length table))) (le-leb (words j) (length table) l)))

-- by the check
module _ (b : List ℕ) (s : PinSet) (k : Call) where
  pub see_refused : (table : List ℕ) (n : ℕ) (t : PinSet) → record { refused = some n; set = t } ≡ call b s k → record { answer = refused n; set = t; table = table } ≡ see_call b s k table
  unfolding call see_call
  see_refused table n t e = go (checked opening b s) e
    where
      go : (r : Result Job) → record { refused = some n; set = t } ≡ on_read (refuse s) r (λ j. call_in j s k) → record { answer = refused n; set = t; table = table } ≡ on_read (keep s table) r (λ j. see_in j s k table)
      go (P.refused x) q = unfold on_read refuse keep in (
          let same : n ≡ x = some_same (ap (λ (h : Handed). h.refused) q) in
          let own : t ≡ s = ap (λ (h : Handed). h.set) q in
          rw (same, own) refl
          )
      go (took j x) q = unfold on_read call_in guarded in (see_refused_in j s k table (refusal (call_tests j s k)) refl n t q)

  -- what a call that was taken says
  pub record Taken (t : PinSet) : Type 0 where
    pub size : ℕ
    pub checks : checked opening b s ≡ took (job_in b) size
    pub passes : refusal (call_tests (job_in b) s k) ≡ none
    pub set_is : t ≡ called (job_in b) s k

  pub taken : (t : PinSet) → record { refused = none; set = t } ≡ call b s k → Taken t
  unfolding call
  taken t e = go (checked opening b s) refl e
    where
      by_tests : (j : Job) (n : ℕ) → checked opening b s ≡ took j n → job_in b ≡ j → (o : Option ℕ) → refusal (call_tests j s k) ≡ o → record { refused = none; set = t } ≡ unless (refuse s) o (take_in (called j s k)) → Taken t
      by_tests j n c i none q w = unfold unless take_in in (record { size = n; checks = rw i c; passes = rw i q; set_is = rw i (ap (λ (h : Handed). h.set) w) })
      by_tests j n c i (some x) q w = unfold unless refuse in (absurd (not_none (sym (ap (λ (h : Handed). h.refused) w))))

      go : (r : Result Job) → checked opening b s ≡ r → record { refused = none; set = t } ≡ on_read (refuse s) r (λ j. call_in j s k) → Taken t
      go (P.refused x) c q = unfold on_read refuse in (absurd (not_none (sym (ap (λ (h : Handed). h.refused) q))))
      go (took j n) c q = unfold on_read call_in guarded in (by_tests j n c (held_job opening b j n (checked_parsed opening b s j n c)) (refusal (call_tests j s k)) refl q)

  module _ (t : PinSet) (a : Taken t) (long : length s.pins ≡ 512) where
    abbrev j : Job
    j = job_in b

    parsed : parse opening b ≡ took j a.size
    parsed = checked_parsed opening b s j a.size a.checks

    unit_below : (k : Call) → AllHold (CallAsks j s k) → unit_of k ≤ length j.units
    unfolding unit_of
    unit_below (pin u x) h = h.0.1
    unit_below (lift u) h = h.0.1

    new_holds : Holds j (lines (length j.units) t.pins) t
    unfolding call_in guarded unless take_in
    new_holds =
        let limits = limited j (well_read opening b j a.size parsed).well_formed in
        let f = call_follows j limits (lines (length j.units) s.pins) s (matches_holds j s limits (passes_matches opening b j a.size parsed s a.checks) long) k in
        its_own (rw (← a.set_is) at (rw a.passes at f.holds))
      where
        its_own : {m : PinMap} → Holds j m t → Holds j (lines (length j.units) t.pins) t
        its_own h = rw (← h.pins) at h

    new_checked : checked opening b t ≡ took j a.size
    new_checked = holds_checked b j a.size parsed (limited j (well_read opening b j a.size parsed).well_formed) _ t new_holds

    module _ (full : length t.pins ≡ 512) (u : ℕ) (named : unit_of k ≡ u) (table : List ℕ) where
      new_ready : Ready b t.header t
      new_ready = ready opening b t t.header a.size (record { job = j; is = new_checked; header_is = sym new_holds.header }) full

      words_told : words j ≡ table_words t.header
      words_told = words_are b t.header new_ready.opens

      -- 11, and the set is the one before the call
      pub short_seen : length table < table_words t.header → record { answer = refused 11; set = s; table = table } ≡ see_call b s k table
      unfolding see_call on_read keep
      short_seen l = rw a.checks (see_short j s k table a.passes (omega (arith, words_told)))

      module _ (room : table_words t.header ≤ length table) where
        -- with room for the table nothing refuses it
        pub not_short : refused_by (see_call b s k table).answer ≡ none
        unfolding see_call on_read seen refused_by
        not_short = rw (a.checks, ← see_done j s k table a.passes (omega (arith, words_told))) refl

        pub renews : Renews b t.header t u table
        renews = record {
          ready = new_ready;
          unit = omega (arith, named, unit_below k (none_refuses (call_decides j s k) a.passes), units_are b t.header new_ready.opens);
          room = omega (arith, words_told);
        }

        -- or the table that was brought up to date
        pub word_seen : (word : ℕ) (new : List ℕ) → Renewed b t u table word new → record { answer = gives word; set = t; table = new } ≡ see_call b s k table
        unfolding see_call on_read
        word_seen word new r = rw a.checks (all_seen ∙ see_done j s k table a.passes (omega (arith, words_told)))
          where
            all_seen : record { answer = gives word; set = t; table = new } ≡ seen j (called j s k) (unit_of k) table
            all_seen = unfold seen in rw (r.word_is, r.table_is, named, ← a.set_is) refl
