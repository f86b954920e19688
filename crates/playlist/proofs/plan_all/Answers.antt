-- `playlist::plan_all` meets its contract: each programme has its turn, up to the first that is refused.
use mathlib.Core.Path.{refl}
use native.Mathlib.Omega.{arith}
use Rattle.playlist.proofs.Running.{running_first, running_on, running_stop, running_end}
use borrow.Author.Rules.{rules}
use Rattle.playlist.proofs.plan_all.Goals as goal

pub loop-at-init : goal.loop-at-init
loop-at-init c = (search rules, refl, running_first _ _ _ _ _)

pub returns-in-Err : goal.returns-in-Err
returns-in-Err c =
    running_stop _ _ _ _ _ c.args.count c.requires c.loop-at.at c.loop-at.standing _ _ _ c.loop-at.invariant.2 (omega arith) c.plan_programme.result _ _ _ c.plan_programme.ensures _ _ c.in-Err.is (omega arith)

pub loop-at-preserved : goal.loop-at-preserved
loop-at-preserved c =
    (omega arith, search rules, running_on _ _ _ _ _ c.args.count c.requires c.loop-at.at c.loop-at.standing _ _ _ c.loop-at.invariant.2 (omega arith) c.plan_programme.result _ _ _ c.plan_programme.ensures _ c.in-Ok.is)

pub returns : goal.returns
returns c =
    running_end _ _ _ _ _ c.args.count c.requires c.loop-at.at c.loop-at.standing _ _ _ c.loop-at.invariant.2 (omega arith)
