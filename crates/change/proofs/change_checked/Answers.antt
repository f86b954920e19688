-- `change::change_checked` meets its contract: what refuses the change, then the rest over the new line.
use Rattle.header.proofs.Told.{handed_as}
use Rattle.change.proofs.Over.{call_refused, call_done, Taken, taken}
use Rattle.change.proofs.Verdicts.{counts, buckets_under, over_same}
use Rattle.contract.specs.Answers.{contract_is}
use Rattle.changing.specs.Calls.{change_in}
use Rattle.format.specs.JobBytes.{job_in}
use Rattle.format.proofs.Opened.{job_limits, units_are, decoder_is}
use Rattle.header.specs.Answers.{plain}
use Rattle.pinning.specs.PinSet.{lines}
use Rattle.pinset.specs.Answers.{set_of}
use Rattle.model.specs.Job.{Line, Job}
use Rattle.best.specs.Answers.{order_is}
use lib.ListN.{length}
use Rattle.planner.specs.Answers.{planned}
use mathlib.Core.Path.{ap, ◌∙◌}
use native.Mathlib.Omega.{arith}
use Rattle.change.proofs.change_checked.Goals as goal

pub returns-in_err-change_verdict : goal.returns-in_err-change_verdict
unfolding plain set_of
returns-in_err-change_verdict c = handed_as (λ x. planned x c.args.table.now c.args.entries.now) _ _ c.from_residual.ensures (call_refused _ _ _ c.requires _ _ _ _ _ _ _ c.in_err-change_verdict.ensures)

pub line_under-line-requires : goal.line_under-line-requires
unfolding plain set_of
line_under-line-requires c =
    -- nothing refuses the change
    let passes : let a = c.args in Taken a.job.now (plain a.header) (lines a.header.units a.set.pins) a.old.now a.first (contract_is a.contract) (length a.table.now) (length a.entries.now) = taken _ _ c.requires.opens _ _ _ _ _ _ c.in_ok-change_verdict.ensures in
    let t = passes in
    record { decoder = omega (arith, (job_limits _ _ c.requires.opens).decoder, decoder_is _ _ c.requires.opens); limits = t.offered; rising = t.rising }

pub change_over-requires : goal.change_over-requires
unfolding plain set_of
change_over-requires c =
    -- nothing refuses the change
    let passes : let a = c.args in Taken a.job.now (plain a.header) (lines a.header.units a.set.pins) a.old.now a.first (contract_is a.contract) (length a.table.now) (length a.entries.now) = taken _ _ c.requires.opens _ _ _ _ _ _ c.in_ok-change_verdict.ensures in
    let t = passes in
    let l = c.line_under-line.ensures in
    let n = counts _ _ t.offered in (
      record {
        plan = record { opens = c.requires.opens; in_shape = t.shape };
        ready = c.requires;
        line = l.fits;
        decoder = ap (λ (x : Line). x.decoder) l.is;
        count = ap (λ (x : Line). length x.buckets) l.is ∙ buckets_under _ _ n.0 n.1;
      },
      rw (over_same c.args.job.now (plain c.args.header) c.requires.opens (lines c.args.header.units c.args.set.pins) c.args.old.now c.args.first (contract_is c.args.contract) (length c.args.table.now) (length c.args.entries.now) _ l, units_are _ _ c.requires.opens) t.rest,
    )

pub returns : goal.returns
unfolding plain set_of
returns c =
    c.change_over.ensures
    ∙ ap (λ (k : Job). change_in (job_in c.args.job.now) k (lines c.args.header.units c.args.set.pins) c.args.old.now c.args.first (order_is c.args.order) c.args.table.now c.args.entries.now) (over_same c.args.job.now (plain c.args.header) c.requires.opens (lines c.args.header.units c.args.set.pins) c.args.old.now c.args.first (contract_is c.args.contract) (length c.args.table.now) (length c.args.entries.now) _ c.line_under-line.ensures)
    ∙ call_done _ _ _ c.requires _ _ _ _ _ _ c.in_ok-change_verdict.ensures
