-- `pinset::check` meets its contract: the job's refusal, or 6, or the header that was read.
use Rattle.header.proofs.Told.{handed_as}
use Rattle.job.specs.Answers.{reading}
use Rattle.pinset.proofs.Answering.{few_units, check_refused, check_took, check_six}
use Rattle.job.proofs.Answers.{answer_took, answer_refused}
use Rattle.header.specs.Answers.{plain}
use Rattle.pinset.specs.declared.PinSet.{PinSet}
use Rattle.pinset.specs.Answers.{set_of}
use Rattle.std.proofs.Common.{◌≡◌, ◌∙◌, sym, length, rules}
use Rattle.pinset.proofs.check.Goals as goal

as_read : (s : PinSet) → length s.pins ≡ 512 → length (set_of s).pins ≡ 512
unfolding set_of
as_read s e = e

pub fits-requires : goal.fits-requires
fits-requires c = unfold plain in (few_units _ _ _ _ (answer_took _ c.in_ok-reading.reading c.in_ok-reading.ensures))

pub returns-in_err-reading-clause-answer : goal.returns-in_err-reading-clause-answer
returns-in_err-reading-clause-answer c = handed_as reading _ _ c.from_residual.ensures (check_refused _ _ _ _ (answer_refused _ _ c.in_err-reading.ensures))

pub returns-then-fits-clause-answer : goal.returns-then-fits-clause-answer
returns-then-fits-clause-answer c =
    -- the set's array has its length
    let size : length c.args.set.pins ≡ 512 = search rules in
    check_took _ _ _ _ (answer_took _ c.in_ok-reading.reading c.in_ok-reading.ensures) (as_read c.args.set size) (sym c.if-fits.true ∙ c.fits.ensures)

pub returns-else-fits-clause-answer : goal.returns-else-fits-clause-answer
returns-else-fits-clause-answer c =
    let size : length c.args.set.pins ≡ 512 = search rules in
    check_six _ _ _ _ (answer_took _ c.in_ok-reading.reading c.in_ok-reading.ensures) (as_read c.args.set size) (sym c.if-fits.false ∙ c.fits.ensures)
