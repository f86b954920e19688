-- `table::table_words` meets its contract: 0 for a header that is out of range, else the words over its own buffers.
use mathlib.Core.Path.{sym, ◌∙◌, ap}
use Rattle.header.specs.Answers.{verdict}
use Rattle.table.proofs.Words.{words_none, words_some, own_over}
use Rattle.table.proofs.table_words.Goals as goal

pub returns-in-Err : goal.returns-in-Err
returns-in-Err c = words_none _ _ (sym (ap verdict c.in-Err.is) ∙ c.verdict.ensures)

pub words_over-requires : goal.words_over-requires
words_over-requires c = own_over _ _ (sym (ap verdict c.in-Ok.is) ∙ c.verdict.ensures) c.of.ensures

pub returns-in-Ok : goal.returns-in-Ok
returns-in-Ok c = c.words_over.ensures ∙ words_some _ _ (sym (ap verdict c.in-Ok.is) ∙ c.verdict.ensures) c.of.ensures
