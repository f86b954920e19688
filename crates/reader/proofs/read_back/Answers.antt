-- `reader::read_back` meets its contract: what reading refuses is handed back, and the rest is `read_on`.
use Rattle.std.specs.Prelude.{Result}
use Rattle.header.specs.Refusals.{code}
use Rattle.header.specs.declared.refusal.Refusal.{Refusal}
use Rattle.header.proofs.Told.{handed_as}
use Rattle.format.proofs.Opened.{opens_by}
use Rattle.job.proofs.Answers.{answer_took, answer_refused}
use Rattle.exporting.specs.Contents.{contents}
use Rattle.reader.proofs.Answering.{back_refused, back_took}
use Rattle.reader.proofs.read_back.Goals as goal

pub returns-in_err-header : goal.returns-in_err-header
returns-in_err-header c =
    let a = c.args in
    handed_as (λ (r : Result (Unit {0}) Refusal). contents (code r) a.fields.now a.rates.now a.sizes.now a.distortions.now a.values.now) _ _ c.from_residual.ensures
    (back_refused _ _ _ _ _ _ _ _ (answer_refused _ _ c.in_err-header.ensures))

pub read_on-requires : goal.read_on-requires
read_on-requires c = let d = answer_took _ _ c.in_ok-header.ensures in opens_by _ _ _ d.job _ d.is d.header_is

pub returns : goal.returns
returns c = back_took _ _ _ _ _ _ _ _ _ (answer_took _ _ c.in_ok-header.ensures) _ c.read_on.ensures
