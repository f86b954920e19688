-- `pinset::pin_fits` meets its contract: no pin, a unit of the job, or a place behind its units.
use Rattle.pinning.proofs.Loops.{fits_none, fits_below, fits_past}
use Rattle.header.specs.Answers.{plain}
use Rattle.pinset.proofs.pin_fits.Goals as goal

pub returns-then-pin-eq-NO_PIN : goal.returns-then-pin-eq-NO_PIN
returns-then-pin-eq-NO_PIN c = fits_none _ _ _ c.if-pin-eq-NO_PIN.true

pub returns-then-place-header : goal.returns-then-place-header
unfolding plain
returns-then-place-header c = fits_below _ _ _ c.if-pin-eq-NO_PIN.false c.if-place-header.true

pub returns : goal.returns
unfolding plain
returns c = fits_past _ _ _ c.if-pin-eq-NO_PIN.false c.if-place-header.false
