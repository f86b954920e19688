-- `commands::follow` meets its contract.
use Rattle.commands.proofs.Following.{going_start, going_further, going_on, going_stop, going_end}
use Rattle.commands.specs.Answers.{step_is}
use Rattle.header.specs.Answers.{verdict}
use Rattle.pins.specs.Answers.{handed}
use Rattle.pinning.specs.Calls.{refuse, take_in}
use mathlib.Core.Path.{ap}
use native.Mathlib.Omega.{arith}
use Rattle.commands.proofs.follow.Goals as goal

pub loop-at-init : goal.loop-at-init
loop-at-init c = going_start _ _ _ c.requires

pub returns-in-Err : goal.returns-in-Err
unfolding handed refuse step_is
returns-in-Err c =
    going_stop _ _ _ _ _ c.loop-at.invariant c.loop-at-test.true (step_is c.carry_out-done.result) c.carry_out-done.ensures _ (ap verdict c.in-Err.is)

pub loop-at-smaller : goal.loop-at-smaller
unfolding step_is
loop-at-smaller c =
    omega (arith, going_further _ _ _ _ _ c.loop-at.invariant c.loop-at-test.true (step_is c.carry_out-done.result) c.carry_out-done.ensures (ap verdict c.in_default.is))

pub loop-at-preserved : goal.loop-at-preserved
unfolding step_is
loop-at-preserved c =
    going_on _ _ _ _ _ c.loop-at.invariant c.loop-at-test.true (step_is c.carry_out-done.result) c.carry_out-done.ensures (ap verdict c.in_default.is)

pub returns : goal.returns
unfolding handed take_in
returns c = going_end _ _ _ _ _ c.loop-at.invariant c.loop-at-test.false
