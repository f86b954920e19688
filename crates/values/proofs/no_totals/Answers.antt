-- `values::no_totals` meets its contract.
use Rattle.interval.specs.Answers.{totals_of}
use Rattle.values.specs.Lists.{totals_list, totals_values}
use Rattle.values.proofs.Rooms.{one_zero, two_zeros}
use Rattle.values.proofs.no_totals.Goals as goal

pub returns-then-buckets-eq2 : goal.returns-then-buckets-eq2
unfolding totals_values totals_list totals_of
returns-then-buckets-eq2 c = two_zeros _ c.if-buckets-eq2.true

pub returns-else-buckets-eq2 : goal.returns-else-buckets-eq2
unfolding totals_values totals_list totals_of
returns-else-buckets-eq2 c = one_zero _ c.requires.0 c.requires.1 c.if-buckets-eq2.false
