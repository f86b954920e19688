-- `enlarge::list_checked` meets its contract.
use Rattle.enlarge.proofs.Answering.{over_fits, all_11, all_12, lists, all_done}
use Rattle.enlarge.specs.Answers.{listed}
use Rattle.header.specs.Answers.{plain}
use Rattle.pinset.specs.Answers.{set_of}
use native.Mathlib.Omega.{arith}
use borrow.Author.Rules.{rules}
use Rattle.enlarge.proofs.list_checked.Goals as goal

pub words_over-requires : goal.words_over-requires
unfolding plain
words_over-requires c =
    over_fits _ _ _ c.requires _ c.line_in-line.ensures _ c.line_with.ensures

pub returns-then-table-words_over : goal.returns-then-table-words_over
unfolding plain listed
returns-then-table-words_over c =
    all_11 _ _ _ c.requires _ c.line_in-line.ensures _ c.line_with.ensures _ _ (omega (arith, c.words_over.ensures, c.if-table-words_over.true))

pub returns-then-totals-sizes : goal.returns-then-totals-sizes
unfolding plain listed
returns-then-totals-sizes c =
    all_12 _ _ _ c.requires _ c.line_in-line.ensures _ c.line_with.ensures _ _ (omega (arith, c.words_over.ensures, c.if-table-words_over.false)) (omega (arith, c.if-totals-sizes.true))

pub list_totals-requires : goal.list_totals-requires
unfolding plain set_of
list_totals-requires c =
    lists _ _ _ c.requires _ c.line_in-line.ensures _ c.line_with.ensures _ _ (omega (arith, c.words_over.ensures, c.if-table-words_over.false)) (omega (arith, c.if-totals-sizes.false)) _ c.start-start.ensures _ (search rules)

pub returns : goal.returns
unfolding plain set_of listed
returns c =
    all_done _ _ _ c.requires _ c.line_in-line.ensures _ c.line_with.ensures _ _ (omega (arith, c.words_over.ensures, c.if-table-words_over.false)) (omega (arith, c.if-totals-sizes.false)) _ _ c.list_totals.ensures
