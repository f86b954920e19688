-- `fields::put` meets its contract.
use Rattle.fields.proofs.Setting.{put_part}
use Rattle.fields.proofs.put.Goals as goal

pub returns : goal.returns
returns c = rw c.copy_from_slice.ensures.after (put_part c.args.out.now c.args.new.now c.args.at c.requires)
