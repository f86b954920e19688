-- Every list of clicks with the planning after it: `DemandThree`; so every list of pins and lifts: `CallsThree`.
use Prim.Native.Nat.{ℕ, ◌+◌, ◌-◌, ◌*◌, ◌≤◌}
use mathlib.Core.Path.{◌≡◌, refl, ◌∙◌, ap}
use mathlib.Core.Option.{Option, none, some}
use mathlib.Core.List.{List, [], ◌∷◌}
use native.Mathlib.Omega.{arith}
use lib.ListN.{length, drop}
use lib.Seq.{take_at}
use lib.Dec.{leb}
use borrow.Author.Tests.{le-leb}
use Rattle.base.specs.Refusals.{test}
use Rattle.base.proofs.Refusals.{guarded_past, guarded_last}
use Rattle.format.specs.Parser.{Result, took, on_read}
use Rattle.format.specs.JobBytes.{opening, parse}
use Rattle.model.specs.Job.{Levels, Job, Entry, intervals}
use Rattle.model.specs.Pins.{PinMap}
use Rattle.model.specs.Best.{Order, Open, least_total, best_plan, Aim, open_for}
use Rattle.model.specs.Table.{words}
use Rattle.model.specs.Claims.{AimClaim}
use Rattle.base.proofs.Answers.{not_refused}
use Rattle.model.proofs.Walks.{fits_length}
use Rattle.model.proofs.Evenness.{aims}
use Rattle.format.proofs.Bounds.{limited}
use Rattle.format.proofs.Places.{well_read}
use Rattle.pinning.specs.PinSet.{PinSet, lines}
use Rattle.pinning.specs.Check.{checked}
use Rattle.pinning.specs.Calls.{CallsMade}
use Rattle.pinning.specs.Claims.{HistoryClaim}
use Rattle.pinning.proofs.History.{history, call_history}
use Rattle.format.specs.Choices.{no_choice}
use Rattle.replaying.specs.Entries.{entry_size, entry_bytes}
use Rattle.base.specs.Lent.{over}
use Rattle.replaying.proofs.Entries.{bytes_size, bytes_back}
use Rattle.base.proofs.Lent.{over_length, over_rest}
use Rattle.planning.specs.Calls.{refuse, searched, search_in, plan_tests, plan_in, plan_all, plan_call}
use Rattle.planning.specs.Claims.{BestWritten, PlanClaim, Demand, DemandThree, CallsThree}
use Rattle.planning.proofs.Layers.{from_before, from_rest, from_length, from_table}

-- where neither list is too short, planning is what the search finds
pub plan_searches : (j : Job) (m : PinMap) (a : Aim) (o : Order) (s : ℕ) (start : Levels) (table entries : List ℕ) → words j ≤ length table → entry_size * (intervals j - s) ≤ length entries → plan_in j m a o s start table entries ≡ search_in j m a o s start table entries
unfolding plan_in plan_tests
plan_searches j m a o s start table entries room space =
    guarded_past (refuse table entries) (test 11 (leb (words j) (length table))) (test 12 (leb (entry_size * (intervals j - s)) (length entries)) ∷ []) (search_in j m a o s start table entries) (le-leb (words j) (length table) room)
    ∙ guarded_last (refuse table entries) (test 12 (leb (entry_size * (intervals j - s)) (length entries))) (search_in j m a o s start table entries) (le-leb (entry_size * (intervals j - s)) (length entries) space)

module _ (j : Job) (m : PinMap) (a : Aim) (o : Order) (s : ℕ) (start : Levels) (few : j.choices ≤ no_choice) (rates : length j.line.rates ≤ 256) (h : s ≤ intervals j) (table entries : List ℕ) (room : words j ≤ length table) (space : entry_size * (intervals j - s) ≤ length entries) where
  abbrev k : Open
  k = open_for a j m s start

  abbrev plan : List Entry
  plan = best_plan j k s start o

  claim : AimClaim j m s start a o k
  claim = aims j m s start a o h

  module _ (v : ℕ) (e : least_total j k s start ≡ some v) where
    count : length plan ≡ intervals j - s
    count = omega (arith, fits_length (claim.best_is v e).among.shaped)

    size : length (entry_bytes plan) ≡ entry_size * (intervals j - s)
    size = bytes_size plan ∙ omega (arith, count)

    written : BestWritten j m a o s start table entries (searched j k o s start (some v) table entries)
    unfolding searched
    written = record {
      plan = plan;
      best = claim.best_is v e;
      bytes = unfold over in take_at (entry_bytes plan) (drop (length (entry_bytes plan)) entries) (entry_size * (intervals j - s)) size;
      read_back = unfold over in rw (← count) (bytes_back j few rates (drop (length (entry_bytes plan)) entries) (claim.best_is v e).among.shaped);
      totals_are = refl;
      rest = over_rest (entry_bytes plan) entries (omega (arith, size)) (entry_size * (intervals j - s)) size;
      size = over_length (entry_bytes plan) entries (omega (arith, size));
      table_is = rw (← claim.best_open v e) (from_table j k s table h room);
    }

  searched_claim : (r : Option ℕ) → least_total j k s start ≡ r → PlanClaim j m a o s start table entries (searched j k o s start r table entries)
  unfolding searched
  searched_claim none e = record {
    none_iff = (λ q. claim.none_iff.0 e, λ f. refl);
    none_kept = λ q. refl;
    none_table = λ q. rw (← claim.none_open e) (from_table j k s table h room);
    else_best = λ f. absurd (f refl);
    table_before = from_before ◌+◌ j k s table h room;
    table_rest = from_rest ◌+◌ j k s table h room;
    table_size = from_length ◌+◌ j k s table h room;
  }
  searched_claim (some v) e = record {
    none_iff = (λ q. absurd (not_refused q), λ f. absurd (f plan (claim.best_is v e).among));
    none_kept = λ q. absurd (not_refused q);
    none_table = λ q. absurd (not_refused q);
    else_best = λ f. written v e;
    table_before = from_before ◌+◌ j k s table h room;
    table_rest = from_rest ◌+◌ j k s table h room;
    table_size = from_length ◌+◌ j k s table h room;
  }

  pub search_claim : PlanClaim j m a o s start table entries (search_in j m a o s start table entries)
  unfolding search_in
  search_claim = searched_claim (least_total j k s start) refl

  pub plan_claim : PlanClaim j m a o s start table entries (plan_in j m a o s start table entries)
  plan_claim = rw (plan_searches j m a o s start table entries room space) search_claim

-- planning with a set that the job takes is planning with the set's pins
pub plan_checked : (b : List ℕ) (j : Job) (n : ℕ) (s : PinSet) → checked opening b s ≡ took j n → (a : Aim) (o : Order) (table entries : List ℕ) → plan_call b s a o table entries ≡ plan_in j (lines (length j.units) s.pins) a o 0 j.start table entries
unfolding plan_call on_read
plan_checked b j n s e a o table entries = ap (λ (r : Result Job). on_read (refuse table entries) r (λ i. plan_all i s a o table entries)) e

-- whatever calls were made: a history of the set is enough
demanded : (b : List ℕ) (j : Job) (n : ℕ) → parse opening b ≡ took j n → (answers : List (Option ℕ)) (m : PinMap) (r : CallsMade) → HistoryClaim b j n answers m r → Demand b j n answers m r
demanded b j n parsed answers m r h =
    let k = limited j (well_read opening b j n parsed).well_formed in
    record {
      history = h;
      planning = λ a o table entries room space.
          rw (plan_checked b j n r.set h.passes a o table entries, h.pins) (plan_claim j _ a o 0 j.start (omega (arith, k.choices)) (omega (arith, k.rates)) (omega arith) table entries room (omega (arith, space)));
    }

pub demand_three : DemandThree
demand_three b j n parsed clicks = demanded b j n parsed _ _ _ (history b j n parsed clicks)

pub calls_three : CallsThree
calls_three b j n parsed calls = demanded b j n parsed _ _ _ (call_history b j n parsed calls)
