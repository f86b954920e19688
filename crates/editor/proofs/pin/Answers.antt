-- `editor::pin` meets its contract.
use Rattle.editor.proofs.Answering.{room_noted, noted}
use Rattle.editor.proofs.pin.Goals as goal

pub note-requires : goal.note-requires
note-requires c = room_noted _ _ _ _ c.set_in-own.ensures _ c.pin.ensures

pub returns : goal.returns
returns c = noted _ _ _ _ c.set_in-own.ensures _ c.pin.ensures _ c.note.ensures
