-- `planned::tell` meets its contract.
use mathlib.Core.Path.{refl, ap, ◌∙◌}
use Rattle.base.specs.Lent.{put}
use Rattle.header.proofs.Told.{handed}
use Rattle.header.specs.Refusals.{code}
use Rattle.values.specs.Lists.{totals_values}
use Rattle.exporting.specs.Exports.{number_of}
use Rattle.planned.proofs.tell.Goals as goal

pub returns-in_err-found : goal.returns-in_err-found
unfolding number_of put
returns-in_err-found c = rw c.in_err-found.was (record { number = ap code (handed _ _ c.from_residual.ensures); values = refl })

pub returns : goal.returns
unfolding number_of put totals_values
returns c = rw c.in_ok-found.was (record { number = refl; values = c.put_totals.ensures })
