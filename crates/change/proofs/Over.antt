-- A change over a line: what planning the rest asks, and what it comes to.
use Prim.Native.Nat.{ℕ, ◌*◌}
use mathlib.Core.Path.{◌≡◌, sym, ◌∙◌}
use mathlib.Core.Bool.{true}
use mathlib.Core.Option.{none, some}
use mathlib.Core.List.{List}
use native.Mathlib.Omega.{arith}
use lib.ListN.{length, take, drop, length-drop}
use Rattle.model.specs.Job.{Job}
use Rattle.model.specs.Pins.{PinMap}
use Rattle.model.specs.Best.{Order, total}
use Rattle.format.specs.JobBytes.{Header, opening, rate_limits, job_in, Opens}
use Rattle.format.proofs.Bounds.{start_inside}
use Rattle.format.proofs.Opened.{job_limits, units_are, intervals_are, decoder_is}
use Rattle.pinning.specs.PinSet.{PinSet, lines}
use Rattle.pinning.specs.Check.{checked, Ready}
use Rattle.base.specs.Refusals.{Test, refusal, guarded}
use Rattle.base.proofs.Refusals.{refusal_none, unless_some, unless_none}
use Rattle.format.specs.Limits.{each_kept}
use Rattle.format.specs.Parser as P
use Rattle.format.specs.Parser.{on_read}
use Rattle.std.specs.Prelude.{Err}
use Rattle.header.specs.declared.refusal.Refusal.{Refusal}
use Rattle.header.specs.Refusals.{number}
use Rattle.planner.specs.Answers.{planned}
use Rattle.interval.specs.declared.Levels.{Levels}
use Rattle.interval.specs.declared.Totals.{Totals}
use Rattle.interval.specs.Answers.{levels_of, totals_of}
use Rattle.line.specs.declared.Line.{Line}
use Rattle.line.specs.Answers.{line_is}
use Rattle.table.specs.Answers.{job_on}
use Rattle.replaying.specs.Entries.{entry_size, shaped}
use Rattle.replaying.proofs.Entries.{shapes}
use Rattle.replay.proofs.Levels.{bucket_count}
use Rattle.planning.specs.Calls.{refuse, search_in}
use Rattle.changing.specs.NewContract.{Contract, contract_limits, under}
use Rattle.changing.specs.Calls.{carried, rest_tests, change_tests, behind, change_in, change_call}
use Rattle.changing.proofs.Conditions.{within_is}
use Rattle.changing.proofs.Front.{carried_inside}
use Rattle.change.specs.Answers.{Continues, Follows, changed_for}
use Rattle.change.proofs.Testing.{Led, Passed}

module _ (b : List ℕ) (h : Header) (l : Line) (p : PinSet) (m : PinMap) (old : List ℕ) (s : ℕ) (at : Levels) (sum : Totals) (table entries : List ℕ) where
  abbrev J : Job
  J = job_in b

  pub continues : Follows b h l p old → Passed b h l m old s (length table) (length entries) → Led J m s old at sum → Continues b h l p.pins s (levels_of at) sum old table entries
  continues f g w =
      let o = f.plan.opens in
      let n = intervals_are b h o in
      let i = carried_inside J m old s g.some_entry (omega (arith, g.less, n)) (start_inside J (job_limits b h o)) g.clean in
      let k = ((shapes J (omega (arith, (job_limits b h o).choices)) (omega (arith, (job_limits b h o).rates))).shaped_iff old).0 (rw o.header_is f.plan.in_shape) in
      record {
        searches = record {
          limits = record {
            from = record {
              starts = record { opens = o; line = f.line; pins_size = f.ready.size };
              few = omega (arith, g.less);
              inside = rw w.levels (record {
                decoder = omega (arith, i.decoder, decoder_is b h o, f.decoder);
                count = i.count ∙ bucket_count b h o ∙ sym f.count;
                buckets = (within_is (line_is l).buckets (carried J m s old).buckets).0 g.fits;
              });
            };
            room = g.room;
          };
          space = omega (arith, g.space, g.less, length-drop (entry_size * s) entries);
        };
        small = w.small;
        old_long = omega (arith, k.size, n, g.less);
        space = omega (arith, g.space, g.less);
      }

pub over_in : (b : List ℕ) (l : Line) (m : PinMap) (old : List ℕ) (s : ℕ) (at : Levels) (sum : Totals) (table entries : List ℕ) (o : Order) → Led (job_in b) m s old at sum → behind (totals_of sum) (take (3 * s) old) entries (search_in (job_on b l) m total o s (levels_of at) table (drop (3 * s) entries)) ≡ change_in (job_in b) (job_on b l) m old s o table entries
unfolding change_in
over_in b l m old s at sum table entries o w = rw (w.totals_are, w.levels)

-- the call of a job that the set matches
module _ (b : List ℕ) (h : Header) (p : PinSet) (ready : Ready b h p) (old : List ℕ) (s : ℕ) (c : Contract) (o : Order) (table entries : List ℕ) where
  abbrev own : PinMap
  own = lines h.units p.pins

  abbrev tests : List Test
  tests = change_tests (job_in b) own old s c (length table) (length entries)

  on_call : changed_for b p old s c o table entries ≡ guarded (refuse table entries) tests (change_in (job_in b) (under (job_in b) c) own old s o table entries)
  unfolding changed_for
  on_call = rw (units_are b h ready.opens)

  pub call_refused : (n : Refusal) → some (number n) ≡ refusal tests → planned (Err n) table entries ≡ changed_for b p old s c o table entries
  unfolding planned refuse guarded
  call_refused n e = sym (on_call ∙ unless_some (refuse table entries) (refusal tests) (number n) _ (sym e))

  pub call_done : none ≡ refusal tests → change_in (job_in b) (under (job_in b) c) own old s o table entries ≡ changed_for b p old s c o table entries
  unfolding guarded
  call_done e = sym (on_call ∙ unless_none (refuse table entries) (refusal tests) _ (sym e))

-- the whole call
module _ (b : List ℕ) (p : PinSet) (old : List ℕ) (s : ℕ) (c : Contract) (o : Order) (table entries : List ℕ) where
  pub change_refused : (n : Refusal) → checked opening b p ≡ P.refused (number n) → planned (Err n) table entries ≡ change_call b p old s c o table entries
  unfolding change_call on_read refuse planned
  change_refused n e = rw e

  pub change_took : (k : ℕ) → checked opening b p ≡ P.took (job_in b) k → changed_for b p old s c o table entries ≡ change_call b p old s c o table entries
  unfolding change_call on_read changed_for
  change_took k e = rw e

-- nothing refuses: what the contract and the old plan keep to
pub record Taken (b : List ℕ) (h : Header) (m : PinMap) (old : List ℕ) (s : ℕ) (c : Contract) (table entries : ℕ) : Type 0 where
  pub shape : shaped h old ≡ true
  pub offered : each_kept (contract_limits (length h.buckets) c) ≡ true
  pub rising : each_kept (rate_limits 0 c.rates) ≡ true
  pub rest : refusal (rest_tests (job_in b) (under (job_in b) c) m old s table entries) ≡ none

pub taken : (b : List ℕ) (h : Header) (o : Opens b h) (m : PinMap) (old : List ℕ) (s : ℕ) (c : Contract) (table entries : ℕ) → none ≡ refusal (change_tests (job_in b) m old s c table entries) → Taken b h m old s c table entries
unfolding change_tests
taken b h o m old s c table entries e =
    let t = refusal_none _ _ (sym e) in
    let u = refusal_none _ _ t.1 in
    let v = refusal_none _ _ u.1 in
    let w = refusal_none _ _ v.1 in
    record {
      shape = rw o.header_is at t.0;
      offered = rw (bucket_count b h o) at u.0;
      rising = w.0;
      rest = w.1;
    }
