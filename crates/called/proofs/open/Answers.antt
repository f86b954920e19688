-- `called::open` meets its contract.
use Rattle.header.proofs.Told.{handed_as}
use Rattle.header.specs.Refusals.{code}
use Rattle.exporting.specs.Exports.{opened}
use Rattle.called.proofs.Answering.{open_12, open_refused, open_took}
use Rattle.called.proofs.open.Goals as goal

pub returns-then-values-lt-OPEN_VALUES : goal.returns-then-values-lt-OPEN_VALUES
returns-then-values-lt-OPEN_VALUES c = open_12 _ _ _ c.open-opened.result c.open-opened.ensures _ c.in_ok-taken.was c.if-values-lt-OPEN_VALUES.true

pub returns-in_err-taken : goal.returns-in_err-taken
returns-in_err-taken c = handed_as (λ x. opened (code x) c.args.values.now) _ _ c.from_residual.ensures (open_refused _ _ _ c.open-opened.result c.open-opened.ensures _ c.in_err-taken.was)

pub returns : goal.returns
returns c = open_took _ _ _ c.open-opened.result c.open-opened.ensures _ c.in_ok-taken.was c.if-values-lt-OPEN_VALUES.false _ c.put_opened.ensures
