-- `job::shape_verdict` meets its contract: the head's presence, the head, the body's presence, in this order.
use Rattle.header.proofs.Told.{handed_on}
use native.Mathlib.Omega.{arith}
use Rattle.job.proofs.Records.{shape_short, shape_refused, body_absent, body_there}
use Rattle.job.proofs.shape_verdict.Goals as goal

pub returns-then-rest-lt-HEAD : goal.returns-then-rest-lt-HEAD
returns-then-rest-lt-HEAD c = shape_short _ _ (omega arith)

pub returns-in_err-head_verdict : goal.returns-in_err-head_verdict
returns-in_err-head_verdict c = handed_on _ _ c.from_residual.ensures (shape_refused _ _ _ _ _ (omega arith) c.u16_at-len.ensures c.u16_at-kind.ensures c.head_verdict.ensures _ c.in_err-head_verdict.was)

pub returns-then-body-len : goal.returns-then-body-len
returns-then-body-len c = body_absent _ _ _ _ _ (omega arith) c.u16_at-len.ensures c.u16_at-kind.ensures c.head_verdict.ensures c.in_ok-head_verdict.was (omega arith)

pub returns : goal.returns
returns c = body_there _ _ _ _ _ (omega arith) c.u16_at-len.ensures c.u16_at-kind.ensures c.head_verdict.ensures c.in_ok-head_verdict.was (omega arith)
