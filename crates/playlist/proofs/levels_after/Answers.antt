-- `playlist::levels_after` meets its contract.
use native.Mathlib.Omega.{arith}
use Rattle.header.specs.Answers.{plain, policed_of}
use Rattle.interval.specs.Answers.{totals_of}
use Rattle.planner.specs.Answers.{levels_of_buckets}
use Rattle.playlist.proofs.Levels.{drained_small, led_first}
use Rattle.playlist.proofs.levels_after.Goals as goal

pub overflow_mul-intervals : goal.overflow_mul-intervals
unfolding plain policed_of
overflow_mul-intervals c = record { fits = drained_small _ _ c.requires.few (c.requires.drains 0 (omega arith)) }

pub level_after-bucket-requires : goal.level_after-bucket-requires
unfolding plain policed_of totals_of levels_of_buckets
level_after-bucket-requires c = c.requires.lasts 0 (omega arith)

pub returns : goal.returns
returns c = led_first _ _ _ _ _ c.level_after-bucket.ensures c.second_after.ensures
