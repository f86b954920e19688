-- `draft::write_refusal` meets its contract: the lists, then the room.
use Rattle.draft.proofs.Refusing.{limits_refuse, room_refuses, all_fits}
use Rattle.header.proofs.Told.{handed_on}
use native.Mathlib.Omega.{arith}
use Rattle.draft.proofs.write_refusal.Goals as goal

pub returns-in_err-lists_verdict : goal.returns-in_err-lists_verdict
returns-in_err-lists_verdict c = handed_on _ _ c.from_residual.ensures (limits_refuse _ _ _ _ _ _ c.in_err-lists_verdict.ensures)

pub returns-then-out-job_size : goal.returns-then-out-job_size
returns-then-out-job_size c = room_refuses _ _ _ _ _ c.in_ok-lists_verdict.ensures (omega (arith, c.job_size.ensures))

pub returns : goal.returns
returns c = all_fits _ _ _ _ _ c.in_ok-lists_verdict.ensures (omega (arith, c.job_size.ensures))
