-- `reader::put_codings` meets its contract: the codings before are written, whichever turn the loop is at.
use mathlib.Core.Path.{◌∙◌}
use native.Mathlib.Omega.{arith}
use lib.ListN.{length-set}
use Rattle.format.proofs.Opened.{header_kept}
use Rattle.header.specs.Answers.{plain}
use Rattle.numbers.proofs.Copies.{copied_none}
use borrow.Author.Rules.{rules}
use Rattle.reader.proofs.Codings.{copied_next, copied_whole, sizes_are, distortions_are, within, size_read, distortion_read}
use Rattle.reader.proofs.put_codings.Goals as goal

pub loop-i-init : goal.loop-i-init
unfolding plain
loop-i-init c = (omega arith, omega arith, omega (arith, header_kept _ _ c.requires.0), search rules, search rules, search rules, copied_none _ _ _, copied_none _ _ _)

pub after-place-requires : goal.after-place-requires
unfolding plain
after-place-requires c =
    let o = c.requires.0 in
    (omega arith, omega (arith, within _ _ o c.loop-i.place c.loop-i.i (omega arith) (omega arith) c.loop-i.invariant.3 (omega (arith, c.coding_count-count.ensures)), header_kept _ _ o), omega arith)

pub loop-i-preserved : goal.loop-i-preserved
unfolding plain
loop-i-preserved c =
    let o = c.requires.0 in
    let n = c.coding_count-count.ensures in (
      omega arith,
      c.after-place.ensures.unit,
      c.after-place.ensures.choice,
      c.after-place.ensures.next ∙ rw c.loop-i.invariant.3,
      simp length-set c.loop-i.invariant.4,
      simp length-set c.loop-i.invariant.5,
      copied_next _ _ c.loop-i.i c.loop-i.sizes c.loop-i.invariant.6 _ (omega (arith, c.requires.1)) (omega (arith, sizes_are _ _ o)) (size_read _ _ o c.loop-i.place c.loop-i.i (omega arith) (omega arith) c.loop-i.invariant.3 (omega arith) c.coding_at-coding.result c.coding_at-coding.ensures),
      copied_next _ _ c.loop-i.i c.loop-i.distortions c.loop-i.invariant.7 _ (omega (arith, c.requires.2)) (omega (arith, distortions_are _ _ o)) (distortion_read _ _ o c.loop-i.place c.loop-i.i (omega arith) (omega arith) c.loop-i.invariant.3 (omega arith) c.coding_at-coding.result c.coding_at-coding.ensures),
    )

pub returns : goal.returns
unfolding plain
returns c =
    let o = c.requires.0 in
    let n = c.coding_count-count.ensures in (
      copied_whole _ _ c.loop-i.i c.loop-i.sizes c.loop-i.invariant.6 (omega (arith, sizes_are _ _ o)),
      copied_whole _ _ c.loop-i.i c.loop-i.distortions c.loop-i.invariant.7 (omega (arith, distortions_are _ _ o)),
    )
