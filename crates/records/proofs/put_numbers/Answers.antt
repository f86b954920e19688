-- `records::put_numbers` meets its contract: what is left to write decides, whichever turn the loop is at.
use Rattle.records.proofs.Setting.{numbers_start, numbers_step, numbers_end}
use Rattle.fields.proofs.Setting.{put_size}
use mathlib.Core.Path.{sym, ◌∙◌}
use native.Mathlib.Omega.{arith}
use Rattle.records.proofs.put_numbers.Goals as goal

pub loop-number-preserved : goal.loop-number-preserved
loop-number-preserved c =
    (omega arith, omega arith, put_size _ _ _ _ c.put16.ensures ∙ c.loop-number.invariant.2, numbers_step _ _ _ c.loop-number.place c.loop-number.number-index (omega arith) c.put16.ensures ∙ c.loop-number.invariant.3)

pub returns : goal.returns
returns c =
    sym (numbers_end _ c.loop-number.out c.loop-number.place c.loop-number.number-index (omega arith)) ∙ c.loop-number.invariant.3 ∙ numbers_start _ _ _
