-- `playlist::second_after` meets its contract: each `?` but the first finds what the header's second bucket says is there.
use Rattle.header.specs.Answers.{plain}
use Rattle.playlist.proofs.Levels.{drained_small, led_none, level_there, unused_there, drain_two, lasts_two, led_two}
use Rattle.playlist.proofs.second_after.Goals as goal

pub returns-in_err-bucket : goal.returns-in_err-bucket
returns-in_err-bucket c = rw c.from_residual.ensures (led_none _ _ _ c.in_err-bucket.was)

pub returns-in_err-from : goal.returns-in_err-from
returns-in_err-from c = absurd (level_there _ _ _ _ c.in_ok-bucket.was c.requires c.in_err-from.was)

pub returns-in_err-totals : goal.returns-in_err-totals
returns-in_err-totals c = absurd (unused_there _ _ _ _ c.in_ok-bucket.was c.requires c.in_err-totals.was)

pub overflow_mul-intervals : goal.overflow_mul-intervals
unfolding plain
overflow_mul-intervals c = record { fits = drained_small _ _ c.requires.few (drain_two _ _ _ _ c.in_ok-bucket.was c.requires) }

pub level_after-requires : goal.level_after-requires
level_after-requires c = lasts_two _ _ _ _ c.in_ok-bucket.was c.requires _ _ c.in_ok-from.was c.in_ok-totals.was

pub returns : goal.returns
returns c = led_two _ _ _ _ c.in_ok-bucket.was c.requires _ _ c.in_ok-from.was c.in_ok-totals.was _ c.level_after.ensures
