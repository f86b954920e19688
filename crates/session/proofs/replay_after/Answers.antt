-- `session::replay_after` meets its contract.
use Rattle.header.proofs.Told.{handed_as}
use Rattle.calling.proofs.Sessions.{replay_refused}
use Rattle.session.proofs.Answering.{replay_done}
use Rattle.replay.specs.Answers.{ended}
use Rattle.base.specs.Lent.{refuse}
use Rattle.header.specs.Answers.{door_of}
use mathlib.Core.Path.{sym, ◌∙◌}
use native.Mathlib.Omega.{arith}
use Rattle.session.proofs.replay_after.Goals as goal

pub returns-in_err-replay_refusal : goal.returns-in_err-replay_refusal
unfolding ended refuse
returns-in_err-replay_refusal c = handed_as (λ x. ended x c.args.levels.now) _ _ c.from_residual.ensures (sym (replay_refused _ _ _ _ _ (grind arith)))

pub returns : goal.returns
unfolding door_of
returns c = c.replay.ensures ∙ replay_done _ _ _ _ (grind arith) _ c.set_after-set.ensures
