-- `viewer::tell` meets its contract.
use mathlib.Core.Path.{refl, ap, ◌∙◌}
use Rattle.header.proofs.Told.{handed_as}
use Rattle.header.specs.Refusals.{code}
use Rattle.see.specs.Answers.{answered, seen}
use Rattle.exporting.specs.Sets as exported
use Rattle.exporting.specs.Sets.{after_see}
use Rattle.viewer.proofs.tell.Goals as goal

pub returns-in_err-word : goal.returns-in_err-word
unfolding seen after_see
returns-in_err-word c table = handed_as (λ x. exported.seen (code x) c.args.set.now table c.args.values.now) _ _ c.from_residual.ensures (rw c.in_err-word.was refl)

pub returns : goal.returns
unfolding seen after_see
returns c table = rw (c.in_ok-word.was, ← c.put_set.ensures, ← c.put_word.ensures) refl
