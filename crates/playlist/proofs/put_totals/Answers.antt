-- `playlist::put_totals` meets its contract: five numbers over their part of the list.
use native.Mathlib.Omega.{arith}
use Prim.Native.Nat.{◌*◌}
use Rattle.interval.specs.Answers.{totals_of}
use Rattle.playlists.specs.Calls.{five}
use Rattle.playlist.proofs.Lists.{five_over, or_none}
use Rattle.playlist.proofs.put_totals.Goals as goal

pub returns : goal.returns
unfolding five totals_of
returns c =
    let t = c.args.totals in
    rw (c.copy_from_slice.ensures.after, ← or_none t.unused t.unused2, ← c.unwrap_or.ensures) (five_over c.args.list.now (5 * c.args.done) _ _ _ _ _ (omega (arith, c.requires)))
