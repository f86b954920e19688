-- `played::tell` meets its contract.
use mathlib.Core.Path.{refl, ap, ◌∙◌}
use Rattle.std.specs.Prelude.{Ok}
use Rattle.base.specs.Lent.{put}
use Rattle.header.proofs.Told.{handed}
use Rattle.header.specs.Refusals.{code}
use Rattle.replay.specs.Answers as told
use Rattle.values.specs.Lists.{totals_values, replayed_list}
use Rattle.exporting.specs.Exports.{number_of}
use Rattle.played.proofs.Answering.{violated_told}
use Rattle.played.proofs.tell.Goals as goal

pub returns-in_err-totals : goal.returns-in_err-totals
unfolding number_of put
returns-in_err-totals c = rw c.in_err-totals.was (record { number = ap code (handed _ _ c.from_residual.ensures); values = refl })

pub returns-in-Clean : goal.returns-in-Clean
unfolding number_of told.replayed put replayed_list totals_values
returns-in-Clean c = rw (c.in_ok-totals.was, c.in-Clean.is) (record { number = refl; values = c.put_replayed.ensures })

pub returns-in-Violated : goal.returns-in-Violated
returns-in-Violated c = violated_told _ _ _ (c.in_ok-totals.was ∙ ap Ok c.in-Violated.is) _ _ c.violation_number-number.ensures _ c.no_totals.ensures _ _ c.put_replayed-in-Violated.ensures
