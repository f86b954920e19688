-- `best::best_move` meets its contract.
use Rattle.best.proofs.Moves.{layered, choices_fit, rate_below, choice_below, below_mark, reached_end, best_move}
use Rattle.table.proofs.Jobs.{few_units}
use Rattle.best.specs.Answers.{order_is}
use Rattle.header.specs.Answers.{plain}
use native.Mathlib.Omega.{arith}
use Rattle.best.proofs.best_move.Goals as goal

pub choices_in-choices-requires : goal.choices_in-choices-requires
unfolding plain
choices_in-choices-requires c = (c.requires.starts.pins_size, few_units _ _ c.requires.starts.opens, c.requires.before)

pub best_entry-pick-requires : goal.best_entry-pick-requires
best_entry-pick-requires c =
    layered _ _ _ _ _ _ _ _ _ c.requires _ c.choices_in-choices.ensures

pub offset_bounds-line-rate : goal.offset_bounds-line-rate
offset_bounds-line-rate c =
    let l = rate_below _ _ _ _ _ _ _ _ _ c.requires _ c.choices_in-choices.ensures _ _ c.best_entry-pick.ensures in
    record { fits = omega (arith, c.requires.starts.line.rates) }

pub bounds-line-rate : goal.bounds-line-rate
bounds-line-rate c =
    let l = rate_below _ _ _ _ _ _ _ _ _ c.requires _ c.choices_in-choices.ensures _ _ c.best_entry-pick.ensures in
    omega (arith, c.requires.starts.line.rates, c.requires.starts.line.size)

pub candidate_at-taken-requires : goal.candidate_at-taken-requires
candidate_at-taken-requires c =
    (choices_fit (order_is c.args.order) _ _ _ _ _ _ _ _ c.requires _ c.choices_in-choices.ensures, choice_below _ _ _ _ _ _ _ _ _ c.requires _ c.choices_in-choices.ensures _ _ c.best_entry-pick.ensures)

pub overflow_cast-index : goal.overflow_cast-index
overflow_cast-index c =
    let l = rate_below _ _ _ _ _ _ _ _ _ c.requires _ c.choices_in-choices.ensures _ _ c.best_entry-pick.ensures in
    record { fits = omega (arith, c.requires.starts.line.rates) }

pub choice_number-requires : goal.choice_number-requires
choice_number-requires c =
    below_mark _ _ _ _ _ _ _ _ _ c.requires _ c.choices_in-choices.ensures _ _ c.best_entry-pick.ensures

pub levels_after-requires : goal.levels_after-requires
levels_after-requires c =
    reached_end _ _ _ _ _ _ _ _ _ c.requires _ c.choices_in-choices.ensures _ _ c.best_entry-pick.ensures _ c.candidate_at-taken.ensures _ c.interval_of-interval.ensures

pub returns : goal.returns
returns c =
    best_move _ _ _ _ _ _ _ _ _ c.requires _ c.choices_in-choices.ensures _ _ c.best_entry-pick.ensures _ c.candidate_at-taken.ensures _ c.interval_of-interval.ensures _ _ c.choice_number.ensures c.levels_after.ensures
