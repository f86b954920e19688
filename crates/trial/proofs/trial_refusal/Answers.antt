-- `trial::trial_refusal` meets its contract: the header, its drains, then the room.
use Rattle.trial.proofs.Refusing.{header_refuses, drains_refuse, room_refuses, none_refuses}
use Rattle.header.specs.Answers.{door_of}
use Rattle.header.proofs.Told.{handed_on}
use Rattle.std.proofs.Common.{arith}
use Rattle.trial.proofs.trial_refusal.Goals as goal

pub returns-in_err-verdict : goal.returns-in_err-verdict
returns-in_err-verdict c = handed_on _ _ c.from_residual.ensures (header_refuses _ _ _ c.in_err-verdict.ensures)

pub returns-in_err-drains_verdict : goal.returns-in_err-drains_verdict
unfolding door_of
returns-in_err-drains_verdict c =
    handed_on _ _ c.from_residual-in_err-drains_verdict.ensures (drains_refuse _ _ c.in_ok-verdict.ensures _ c.in_err-drains_verdict.ensures)

pub returns-then-out-job_size : goal.returns-then-out-job_size
unfolding door_of
returns-then-out-job_size c = room_refuses _ _ c.in_ok-verdict.ensures c.in_ok-drains_verdict.ensures (omega (arith, c.job_size.ensures))

pub returns : goal.returns
unfolding door_of
returns c = none_refuses _ _ c.in_ok-verdict.ensures c.in_ok-drains_verdict.ensures (omega (arith, c.job_size.ensures))
