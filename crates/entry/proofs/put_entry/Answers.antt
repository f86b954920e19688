-- `entry::put_entry` meets its contract.
use Rattle.entry.proofs.Bytes.{entry_written}
use borrow.Author.Rules.{rules}
use Rattle.entry.proofs.put_entry.Goals as goal

pub returns : goal.returns
returns c = entry_written _ _ _ _ _ (search rules) c.requires c.put16.ensures
