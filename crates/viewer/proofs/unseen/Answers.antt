-- `viewer::unseen` meets its contract.
use mathlib.Core.Path.{refl}
use borrow.Author.Tests.{lt-ltb, le-ltb}
use Rattle.pinset.specs.Answers.{set_of}
use Rattle.header.specs.Answers.{verdict}
use Rattle.pins.specs.Answers.{handed}
use Rattle.viewer.specs.Answers.{unseen_by}
use Rattle.viewer.proofs.unseen.Goals as goal

pub returns-then-table-table_words : goal.returns-then-table-table_words
unfolding handed set_of unseen_by
returns-then-table-table_words c = rw (c.in-Ok.is, ← c.table_words.ensures, lt-ltb c.args.table c.table_words.result c.if-table-table_words.true) refl

pub returns-in-Err : goal.returns-in-Err
unfolding handed unseen_by
returns-in-Err c = rw c.in-Err.is refl

pub returns-else-table-table_words : goal.returns-else-table-table_words
unfolding handed set_of unseen_by
returns-else-table-table_words c = rw (c.in-Ok.is, ← c.table_words.ensures, le-ltb c.args.table c.table_words.result c.if-table-table_words.false) refl
