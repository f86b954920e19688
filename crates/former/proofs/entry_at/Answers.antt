-- `former::entry_at` meets its contract.
use Rattle.former.proofs.Turning.{entry_read}
use Rattle.former.proofs.entry_at.Goals as goal

pub returns : goal.returns
returns c = entry_read _ _
