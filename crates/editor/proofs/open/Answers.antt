-- `editor::open` meets its contract.
use Rattle.header.proofs.Told.{handed_as}
use Rattle.header.specs.Refusals.{code}
use Rattle.exporting.specs.Exports.{filled}
use Rattle.editor.proofs.Answering.{open_12, open_refused, open_took}
use Rattle.editor.proofs.open.Goals as goal

pub returns-then-set-lt-SIZE : goal.returns-then-set-lt-SIZE
returns-then-set-lt-SIZE c = open_12 _ _ _ c.open-opened.result c.open-opened.ensures _ c.in_ok-opened.was c.if-set-lt-SIZE.true

pub returns-in_err-opened : goal.returns-in_err-opened
returns-in_err-opened c = handed_as (λ x. filled (code x) c.args.set.now) _ _ c.from_residual.ensures (open_refused _ _ _ c.open-opened.result c.open-opened.ensures _ c.in_err-opened.was)

pub returns : goal.returns
returns c = open_took _ _ _ c.open-opened.result c.open-opened.ensures _ c.in_ok-opened.was c.if-set-lt-SIZE.false _ c.put_set.ensures
