-- `sender::with_rate` meets its contract.
use Prim.Native.Nat.{◌+◌, ◌*◌, ◌≤◌}
use lib.ListN.{length}
use Rattle.sender.proofs.Rates.{peak_lowered, over_lowered, block_room, rate_made}
use Rattle.sender.proofs.with_rate.Goals as goal

pub returns-then-rows-sent : goal.returns-then-rows-sent
returns-then-rows-sent c = peak_lowered _ _ _ _ _ _ _ c.if-rows-sent.true

pub returns-then-levels-to : goal.returns-then-levels-to
returns-then-levels-to c =
    over_lowered _ _ _ _ _ _ _ _ c.if-rows-sent.false c.saturating_sub-to.ensures c.if-levels-to.true

pub slice_bounds-with_levels-end : goal.slice_bounds-with_levels-end
slice_bounds-with_levels-end c =
    -- the block that the outer level leads to stands in the rows
    let room : (c.args.rate * (c.args.outer.size + 1) + c.saturating_sub-to.result) * (c.args.inner.size + 1) + (c.args.inner.size + 1) ≤ length c.args.rest.now = block_room c.args.outer c.args.inner c.args.rows c.args.rest.now c.args.level c.args.rate c.saturating_sub-to.result c.if-rows-sent.false c.if-levels-to.false c.requires.3 in
    room

pub returns : goal.returns
returns c =
    rate_made c.args.outer c.args.inner c.args.rows c.args.rest.now c.args.level c.args.rate c.saturating_sub-to.result _ _ c.if-rows-sent.false c.saturating_sub-to.ensures c.if-levels-to.false c.requires.3 c.with_levels.ensures
