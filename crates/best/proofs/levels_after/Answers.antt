-- `best::levels_after` meets its contract.
use mathlib.Core.Path.{sym, ◌∙◌, ap}
use Rattle.interval.specs.Answers.{outcome_is}
use Rattle.line.specs.Answers.{step_of}
use Rattle.best.proofs.Moves.{reached_ok}
use Rattle.best.proofs.levels_after.Goals as goal

pub unwrap-requires : goal.unwrap-requires
unfolding step_of
unwrap-requires c = reached_ok _ _ (c.step.ensures ∙ c.requires.is)

pub returns : goal.returns
unfolding step_of outcome_is
returns c = sym c.step.ensures ∙ ap outcome_is c.unwrap.ensures
