-- `table::line_in` meets its contract.
use Rattle.table.proofs.Arrays.{filled_none}
use Rattle.table.proofs.Jobs.{line_read}
use Rattle.header.specs.Answers.{plain}
use Rattle.format.proofs.Opened.{job_limits, rates_are}
use mathlib.Core.Path.{◌≡◌, refl}
use Prim.Native.Nat.{◌-◌}
use native.Mathlib.Omega.{arith}
use Rattle.table.proofs.line_in.Goals as goal

pub loop-rate-init : goal.loop-rate-init
unfolding plain
loop-rate-init c =
    (omega arith, omega (arith, rates_are _ _ c.requires, (job_limits _ _ c.requires).rates), filled_none _ _ _ _ refl)

pub returns : goal.returns
unfolding plain
returns c =
    let e : c.loop-rate.rate ≡ c.args.header.rates = omega arith in
    line_read _ c.args.header _ c.loop-rate.rates c.requires c.of.ensures (rw e at c.loop-rate.invariant.2)
