-- `records::put_codings` meets its contract: what is left to write decides, whichever turn the loop is at.
use Rattle.records.proofs.Setting.{codings_start, codings_step, codings_end}
use Rattle.fields.proofs.Setting.{put_size}
use Rattle.writing.specs.Lists.{codings_from}
use Rattle.writing.proofs.Lists.{codings_count, coding_in}
use mathlib.Core.Path.{sym, ◌∙◌}
use native.Mathlib.Omega.{arith}
use Rattle.records.proofs.put_codings.Goals as goal

pub loop-x-preserved : goal.loop-x-preserved
loop-x-preserved c =
    let n = codings_count c.args.sizes.now c.args.distortions.now c.requires.0 in (
      omega arith,
      omega arith,
      put_size _ _ _ _ c.put32.ensures ∙ put_size _ _ _ _ c.put16.ensures ∙ c.loop-x.invariant.2,
      codings_step (codings_from c.args.sizes.now c.args.distortions.now) c.loop-x.out _ _ c.loop-x.place c.loop-x.x (omega arith) _ _ (coding_in c.args.sizes.now c.args.distortions.now c.loop-x.x (omega arith) c.requires.0) c.put16.ensures c.put32.ensures ∙ c.loop-x.invariant.3,
    )

pub returns : goal.returns
returns c =
    let n = codings_count c.args.sizes.now c.args.distortions.now c.requires.0 in
    sym (codings_end (codings_from c.args.sizes.now c.args.distortions.now) c.loop-x.out c.loop-x.place c.loop-x.x (omega arith)) ∙ c.loop-x.invariant.3 ∙ codings_start _ _ _ ∙ rw n
