-- `upload::upload_open` meets its contract: it is that of the call within it, by its door.
use Rattle.header.specs.Answers.{door_of}
use Rattle.upload.proofs.upload_open.Goals as goal

pub returns : goal.returns
unfolding door_of
returns c = rw c.code.ensures c.«open».ensures
