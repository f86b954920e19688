-- `editor::note` meets its contract.
use mathlib.Core.Path.{refl, ap}
use Rattle.header.proofs.Told.{handed_as}
use Rattle.header.specs.Refusals.{code}
use Rattle.header.specs.Answers.{verdict}
use Rattle.pins.specs.Answers.{handed}
use Rattle.exporting.specs.Exports.{filled}
use Rattle.exporting.specs.Sets.{after_call}
use Rattle.editor.proofs.note.Goals as goal

pub put_set-requires : goal.put_set-requires
unfolding handed
put_set-requires c = c.requires (ap verdict c.in_ok-made.was)

pub returns-in_err-made : goal.returns-in_err-made
unfolding handed after_call
returns-in_err-made c = handed_as (λ x. filled (code x) c.args.set.now) _ _ c.from_residual.ensures (rw c.in_err-made.was refl)

pub returns : goal.returns
unfolding handed after_call
returns c = rw (c.in_ok-made.was, ← c.put_set.ensures) refl
