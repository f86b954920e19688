-- `course::interval_at` meets its contract: rate, coding, pin and choice are those of the entry in this place.
use native.Mathlib.Omega.{arith}
use Rattle.header.specs.Answers.{plain}
use Rattle.format.proofs.Opened.{job_limits, units_are, delay_is}
use Rattle.course.proofs.Entries.{entries_size, interval_is}
use Rattle.course.proofs.interval_at.Goals as goal

pub entry_at-entry-requires : goal.entry_at-entry-requires
unfolding plain
entry_at-entry-requires c = omega (arith, entries_size _ _ _ c.requires.0)

pub coding_in-coding-requires : goal.coding_in-coding-requires
unfolding plain
coding_in-coding-requires c = omega (arith, units_are _ _ c.requires.0.opens, delay_is _ _ c.requires.0.opens, (job_limits _ _ c.requires.0.opens).units, (job_limits _ _ c.requires.0.opens).delay)

pub pin_in-requires : goal.pin_in-requires
unfolding plain
pin_in-requires c = omega (arith, units_are _ _ c.requires.0.opens, (job_limits _ _ c.requires.0.opens).units)

pub returns : goal.returns
unfolding plain
returns c =
    rw (c.rate_at.ensures, c.entry_at-entry.ensures.rate, c.entry_at-entry.ensures.choice) (interval_is _ _ _ c.requires.0 _ c.requires.1 _ _ _ c.requires.2 (rw c.entry_at-entry.ensures.choice at c.coding_in-coding.ensures) c.pin_in.ensures)
