-- `pinset::sum_lines` meets its contract: the sums are those of the units before the place, and small, whichever turn the loop is at.
use mathlib.Core.Path.{◌≡◌}
use Prim.Native.Nat.{◌≤◌, ◌*◌}
use Rattle.pinning.specs.Check.{codings_in}
use Rattle.pinset.specs.Answers.{tallied}
use Rattle.header.specs.Answers.{plain}
use Rattle.pinning.specs.PinSet.{lines}
use Rattle.model.specs.Pins.{totals_to}
use Rattle.pinset.proofs.sum_lines.Given as goal

abbrev pub invariant-loop-place : goal.invariant-loop-place
invariant-loop-place l = (l.place ≤ l.units) × (tallied l.sum ≡ totals_to (codings_in l.job (plain l.header)) (lines l.header.units l.pins) l.place) × (l.sum.count ≤ l.place) × (l.sum.size ≤ l.place * 65535) × (l.sum.distortion ≤ l.place * 4294967295)
