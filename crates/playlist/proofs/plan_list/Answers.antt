-- `playlist::plan_list` meets its contract.
use Prim.Native.Nat.{◌/◌}
use mathlib.Core.Path.{refl, ◌∙◌}
use native.Mathlib.Omega.{arith}
use lib.ListN.{length}
use Rattle.playlist.proofs.Listing.{among, not_among, list_odd, list_count, list_runs}
use Rattle.playlist.proofs.plan_list.Goals as goal

pub returns-then-numbers-count : goal.returns-then-numbers-count
returns-then-numbers-count c = let a = c.args in list_odd a.bytes.now a.numbers.now a.table.now a.entries.now a.totals.now (length a.numbers.now / 2) refl c.if-numbers-count.true

pub returns-then-count : goal.returns-then-count
returns-then-count c = let a = c.args in list_count a.bytes.now a.numbers.now a.table.now a.entries.now a.totals.now (length a.numbers.now / 2) refl (λ h g. not_among _ _ c.if-count.true h (omega (arith, g)))

pub returns : goal.returns
returns c =
    let a = c.args in
    let k = among (length a.numbers.now / 2) _ c.if-count.false in
    c.plan_all.ensures ∙ list_runs a.bytes.now a.numbers.now a.table.now a.entries.now a.totals.now (length a.numbers.now / 2) refl c.if-numbers-count.false k.0 (omega (arith, k.1))
