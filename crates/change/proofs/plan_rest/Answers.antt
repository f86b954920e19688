-- `change::plan_rest` meets its contract: a refusal keeps the entries, and a plan stands behind those that remain.
use Rattle.header.proofs.Told.{handed}
use Rattle.base.proofs.Lent.{part_all, put_back}
use Rattle.change.proofs.Rest.{rest_refused, rest_best, adds}
use Rattle.planner.specs.Answers.{planned, aim_is}
use Rattle.std.specs.Prelude.{Err}
use Rattle.planning.specs.Calls.{search_in}
use Rattle.pinning.specs.PinSet.{lines}
use Rattle.header.specs.Answers.{plain}
use Rattle.table.specs.Answers.{job_on}
use Rattle.best.specs.Answers.{order_is}
use Rattle.interval.specs.Answers.{levels_of}
use Rattle.model.specs.Best.{total}
use lib.ListN.{take, drop}
use mathlib.Core.List.{List, ◌++◌}
use mathlib.Core.Path.{ap, ◌∙◌}
use Prim.Native.Nat.{ℕ, ◌*◌}
use Rattle.change.proofs.plan_rest.Goals as goal

pub both_totals-requires : goal.both_totals-requires
unfolding plain aim_is
both_totals-requires c =
    let a = c.args in
    adds a.job.now (plain a.header) a.line a.pins.now a.first (levels_of a.at) a.before a.old.now a.table.now a.entries.now c.requires (lines a.header.units a.pins.now) (order_is a.order) _ _ _ (c.in_ok-rest.ensures ∙ ap (search_in (job_on a.job.now a.line) (lines a.header.units a.pins.now) total (order_is a.order) a.first (levels_of a.at) a.table.now) (part_all a.entries.now (3 * a.first)))

pub returns-in_err-rest : goal.returns-in_err-rest
unfolding aim_is
returns-in_err-rest c =
    let a = c.args in
    rw (handed _ _ c.from_residual.ensures)
    (ap (planned (Err c.in_err-rest.field-0.0) c.search.new.table) (put_back a.entries.now c.search.new.entries (3 * a.first) c.requires.space)
    ∙ rest_refused _ _ _ _ _ _ a.entries.now _ _ (3 * a.first) c.requires.space _ _ _ (c.in_err-rest.ensures ∙ ap (search_in (job_on a.job.now a.line) (lines a.header.units a.pins.now) total (order_is a.order) a.first (levels_of a.at) a.table.now) (part_all a.entries.now (3 * a.first))))

pub returns : goal.returns
unfolding aim_is
returns c =
    let a = c.args in
    rest_best _ _ _ _ _ _ a.entries.now _ _ (3 * a.first) c.requires.space _ _ _ _ _ (c.in_ok-rest.ensures ∙ ap (search_in (job_on a.job.now a.line) (lines a.header.units a.pins.now) total (order_is a.order) a.first (levels_of a.at) a.table.now) (part_all a.entries.now (3 * a.first))) c.both_totals.ensures (c.put_first.ensures ∙ ap (λ (l : List ℕ). take (3 * a.first) a.old.now ++ drop (3 * a.first) l) (put_back a.entries.now _ (3 * a.first) c.requires.space))
