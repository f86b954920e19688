-- The cases of larger buckets, computed.
use mathlib.Core.Path.{refl}
use Rattle.trellis.specs.Table.{encode}
use Rattle.model.specs.Evaluate.{evaluate}
use Rattle.model.specs.Job.{on_line}
use Rattle.base.specs.Evaluate as base
use Rattle.format.specs.JobBytes.{computes}
use Rattle.format.specs.JobA.{header_a, coded, job_a}
use Rattle.enlarging.specs.Larger.{with_bucket, with_size}
use Rattle.enlarging.specs.Calls.{least_at}
use Rattle.cases.specs.Enlarging.{offered, totals_at, SizeCases}

pub size_cases : SizeCases
unfolding base.evaluate evaluate computes header_a coded job_a on_line encode with_bucket with_size least_at offered totals_at
size_cases = record { one = refl; pinned = refl; two = refl; second = refl; late_plan = refl; no_plan = refl }
