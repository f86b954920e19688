-- `entry::entry_at` meets its contract.
use Rattle.entry.proofs.Bytes.{entry_read}
use Rattle.entry.proofs.entry_at.Goals as goal

pub returns : goal.returns
returns c = entry_read _ c.args.place _ c.requires c.u16_at.ensures
