-- `best::first_entry` meets its contract.
use Rattle.best.proofs.Searching.{pair_passed, row_passed, all_passed, first_found}
use Rattle.best.proofs.Searching.{candidate_offers}
use Rattle.line.proofs.Sizes.{rates_count}
use Rattle.best.specs.Answers.{order_is}
use Rattle.model.specs.Best.{turn}
use Rattle.model.proofs.Entries.{turn_below}
use Rattle.trellis.specs.Table.{first_at}
use Rattle.trellis.specs.Pairs.{row, rows}
use mathlib.Core.List.{append-nil}
use mathlib.Core.Option.{none-ne-some}
use mathlib.Core.Path.{◌≡◌, sym, ◌∙◌}
use Prim.Native.Nat.{◌<◌, ◌-◌}
use native.Mathlib.Omega.{arith}
use borrow.Author.Rules.{rules}
use Rattle.best.proofs.first_entry.Goals as goal

pub search-init : goal.search-init
unfolding rows first_at
search-init c = search rules

pub offset_bounds-line-rate : goal.offset_bounds-line-rate
offset_bounds-line-rate c =
    -- the rate index in this place of the order
    let rate_low : c.rate_in-rate.result < c.args.line.count = rw c.rate_in-rate.ensures (turn_below _ _ _ c.search-test.true) in
    record { fits = omega (arith, rate_low, c.requires.0.line.rates) }

pub bounds-line-rate : goal.bounds-line-rate
bounds-line-rate c =
    -- the rate index in this place of the order
    let rate_low : c.rate_in-rate.result < c.args.line.count = rw c.rate_in-rate.ensures (turn_below _ _ _ c.search-test.true) in
    omega (arith, rate_low, c.requires.0.line.rates, c.requires.0.line.size)

pub loop-choice-init : goal.loop-choice-init
unfolding row
loop-choice-init c = (search rules, rw (append-nil _) c.search.invariant.1)

pub loop-choice-preserved : goal.loop-choice-preserved
loop-choice-preserved c =
    -- the rate index in this place of the order
    let rate_low : c.rate_in-rate.result < c.args.line.count = rw c.rate_in-rate.ensures (turn_below _ _ _ c.search-test.true) in
    (omega (arith, c.loop-choice-test.true), pair_passed _ _ (rows (turn (order_is c.args.order) c.args.line.count) c.search.at c.args.choices.count) c.rate_in-rate.result c.loop-choice.choice c.loop-choice.invariant.1 (λ e. c.if-offer-word.false (c.offer.ensures ∙ candidate_offers _ _ _ _ c.args.line _ c.candidate_at-candidate.ensures _ _ c.rate_in-rate.result rate_low ∙ e)))

pub search-preserved : goal.search-preserved
search-preserved c =
    let e : c.loop-choice.choice ≡ c.args.choices.count = omega arith in
    (omega arith, row_passed _ _ _ c.search.at _ _ c.loop-choice.choice c.rate_in-rate.ensures e c.loop-choice.invariant.1)

pub returns-after-search : goal.returns-after-search
returns-after-search c =
    let e : c.search.at ≡ c.args.line.count = omega arith in
    absurd (none-ne-some c.requires.1.pick (sym (all_passed _ _ _ _ _ _ (rates_count c.args.line c.requires.0.line) c.search.at e c.search.invariant.1) ∙ c.requires.1.first))

pub returns-then-offer-word : goal.returns-then-offer-word
returns-then-offer-word c =
    -- the rate index in this place of the order
    let rate_low : c.rate_in-rate.result < c.args.line.count = rw c.rate_in-rate.ensures (turn_below _ _ _ c.search-test.true) in
    first_found _ _ _ _ _ _ (rates_count c.args.line c.requires.0.line) c.search.at c.rate_in-rate.result c.loop-choice.choice c.search-test.true c.loop-choice-test.true c.rate_in-rate.ensures c.loop-choice.invariant.1 (sym (candidate_offers _ _ _ _ c.args.line _ c.candidate_at-candidate.ensures _ _ c.rate_in-rate.result rate_low) ∙ sym c.offer.ensures ∙ c.if-offer-word.true)
