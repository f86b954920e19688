-- `entry::entry_fits` meets its contract.
use Rattle.entry.proofs.Shapes.{entry_no_rate, entry_waits, entry_decodes}
use Rattle.header.specs.Answers.{plain}
use Rattle.entry.proofs.entry_fits.Goals as goal

pub returns-then-header-rate : goal.returns-then-header-rate
unfolding plain
returns-then-header-rate c = entry_no_rate _ _ _ _ _ c.if-header-rate.true

pub returns-then-place-header : goal.returns-then-place-header
unfolding plain
returns-then-place-header c = entry_waits _ _ _ _ _ c.if-header-rate.false c.if-place-header.true

pub returns : goal.returns
unfolding plain
returns c = entry_decodes _ _ _ _ _ c.if-header-rate.false c.if-place-header.false
