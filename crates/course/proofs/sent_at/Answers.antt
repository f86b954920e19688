-- `course::sent_at` meets its contract: the rate that the entry names is what the interval sends.
use Rattle.course.proofs.Entries.{entries_size, sent_read}
use Rattle.header.specs.Answers.{plain}
use mathlib.Core.Path.{◌∙◌}
use native.Mathlib.Omega.{arith}
use Rattle.course.proofs.sent_at.Goals as goal

pub entry_at-entry-requires : goal.entry_at-entry-requires
unfolding plain
entry_at-entry-requires c = omega (arith, entries_size _ _ _ c.requires.0)

pub returns : goal.returns
unfolding plain
returns c =
    c.rate_at.ensures ∙ rw c.entry_at-entry.ensures.rate (sent_read _ _ _ c.requires.0 _ c.requires.1)
