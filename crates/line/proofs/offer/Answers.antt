-- `line::offer` meets its contract.
use Rattle.line.proofs.Offers.{barred_offers, violation_offers, reached_below, reached_offers}
use Rattle.line.specs.Answers.{step_of, candidate_is}
use Rattle.interval.specs.Answers.{outcome_is}
use Rattle.model.specs.Table.{word_in}
use borrow.Author.Tests.{not-true, not-false}
use lib.ListN.{length}
use mathlib.Core.Path.{sym, ◌∙◌, ap}
use Prim.Native.Nat.{◌<◌}
use borrow.Author.Rules.{rules}
use Rattle.line.proofs.offer.Goals as goal

pub returns-then-not-candidate : goal.returns-then-not-candidate
unfolding candidate_is
returns-then-not-candidate c = barred_offers _ _ _ _ _ _ _ (not-true _ c.if-not-candidate.true)

pub offset_bounds-next-at : goal.offset_bounds-next-at
unfolding outcome_is step_of
offset_bounds-next-at c =
    -- the place of the levels that are reached
    let below : c.word_place-at.result < length c.args.next.now = let h = sym c.step.ensures ∙ ap outcome_is c.in-Ok.is in rw (c.word_place-at.ensures, c.requires.0) (reached_below _ _ _ _ _ _ c.interval_of-x.ensures _ c.requires.1 h) in
    let b = below in search rules

pub bounds-next-at : goal.bounds-next-at
unfolding outcome_is step_of
bounds-next-at c =
    -- the place of the levels that are reached
    let below : c.word_place-at.result < length c.args.next.now = let h = sym c.step.ensures ∙ ap outcome_is c.in-Ok.is in rw (c.word_place-at.ensures, c.requires.0) (reached_below _ _ _ _ _ _ c.interval_of-x.ensures _ c.requires.1 h) in
    below

pub returns-in-Err : goal.returns-in-Err
unfolding outcome_is step_of candidate_is
returns-in-Err c =
    let h = sym c.step.ensures ∙ ap outcome_is c.in-Err.is in
    violation_offers _ _ _ _ _ _ c.interval_of-x.ensures _ _ (not-false _ c.if-not-candidate.false) _ h

pub returns-in-Ok : goal.returns-in-Ok
unfolding outcome_is step_of word_in candidate_is
returns-in-Ok c =
    let h = sym c.step.ensures ∙ ap outcome_is c.in-Ok.is in
    c.charged.ensures ∙ rw c.word_place-at.ensures (reached_offers _ _ _ _ _ _ c.interval_of-x.ensures _ _ (not-false _ c.if-not-candidate.false) _ h)
