-- `upload::upload_read_archive` meets its contract: it is that of the call within it, by its door.
use Rattle.header.specs.Answers.{door_of}
use Rattle.upload.proofs.upload_read_archive.Goals as goal

pub returns : goal.returns
unfolding door_of
returns c = rw c.code.ensures c.read_back.ensures
