-- `table::fill_table` meets its contract.
use Rattle.table.proofs.Tabling.{combine_combines, room_for_last, last_written, table_filled}
use Rattle.line.proofs.Sizes.{layer_small, layer_product}
use Rattle.line.specs.Answers.{line_is}
use Rattle.decoder.specs.Answers.{combine}
use Rattle.table.specs.Answers.{job_on, open_of}
use Rattle.planning.proofs.Refilling.{last_long}
use Rattle.pinning.specs.PinSet.{lines}
use Rattle.header.specs.Answers.{plain}
use Rattle.format.proofs.Bounds.{bounded}
use Rattle.format.proofs.Opened.{job_formed, intervals_are, few_intervals}
use Rattle.model.specs.Job.{on_line, intervals}
use Rattle.model.specs.Table.{layer_words, Bounded}
use Rattle.model.proofs.Lines.{intervals_on, bounded_on}
use native.Mathlib.Nat.{add-mul, one-mul}
use lib.ListN.{length, length-take, length-drop}
use mathlib.Core.Path.{◌≡◌, sym, ◌∙◌}
use Prim.Native.Nat.{◌+◌, ◌*◌, ◌≤◌}
use native.Mathlib.Omega.{arith}
use Rattle.table.proofs.fill_table.Goals as goal

pub overflow_mul-start : goal.overflow_mul-start
unfolding plain
overflow_mul-start c =
    -- where the last layer starts
    let start_small : c.intervals-last.result * c.layer_words-size.result ≤ 8589934592 = let few = few_intervals _ _ c.requires.0.opens in let least = layer_small _ c.requires.0.line in layer_product c.intervals-last.result c.layer_words-size.result (omega (arith, few, c.intervals-last.ensures)) (omega (arith, least, c.layer_words-size.ensures)) in
    omega (arith, start_small)

pub offset_bounds-table-start : goal.offset_bounds-table-start
unfolding plain
offset_bounds-table-start c =
    -- where the last layer starts
    let start_small : c.intervals-last.result * c.layer_words-size.result ≤ 8589934592 = let few = few_intervals _ _ c.requires.0.opens in let least = layer_small _ c.requires.0.line in layer_product c.intervals-last.result c.layer_words-size.result (omega (arith, few, c.intervals-last.ensures)) (omega (arith, least, c.layer_words-size.ensures)) in
    omega (arith, start_small)

pub slice_bounds-fill_last-count : goal.slice_bounds-fill_last-count
unfolding on_line plain
slice_bounds-fill_last-count c =
    -- the layer's size and the number of intervals are the job's, and there is room for the last layer
    let size_is : c.layer_words-size.result ≡ layer_words (line_is c.args.line) = c.layer_words-size.ensures in
    let total_is : c.intervals-last.result ≡ intervals (job_on c.args.job.now c.args.line) = c.intervals-last.ensures ∙ sym (intervals_on _ (line_is c.args.line) ∙ intervals_are _ _ c.requires.0.opens) in
    let room : c.intervals-last.result * c.layer_words-size.result + c.layer_words-size.result ≤ length c.args.table.now = rw (total_is, size_is) (room_for_last (job_on c.args.job.now c.args.line) c.args.table.now c.requires.2) in
    omega (arith, room)

pub slice_bounds-fill_last-start : goal.slice_bounds-fill_last-start
unfolding on_line plain
slice_bounds-fill_last-start c =
    -- the layer's size and the number of intervals are the job's, and there is room for the last layer
    let size_is : c.layer_words-size.result ≡ layer_words (line_is c.args.line) = c.layer_words-size.ensures in
    let total_is : c.intervals-last.result ≡ intervals (job_on c.args.job.now c.args.line) = c.intervals-last.ensures ∙ sym (intervals_on _ (line_is c.args.line) ∙ intervals_are _ _ c.requires.0.opens) in
    let room : c.intervals-last.result * c.layer_words-size.result + c.layer_words-size.result ≤ length c.args.table.now = rw (total_is, size_is) (room_for_last (job_on c.args.job.now c.args.line) c.args.table.now c.requires.2) in
    omega (arith, room)

pub fill_last-requires : goal.fill_last-requires
unfolding on_line plain
fill_last-requires c =
    -- the layer's size and the number of intervals are the job's, and there is room for the last layer
    let size_is : c.layer_words-size.result ≡ layer_words (line_is c.args.line) = c.layer_words-size.ensures in
    let total_is : c.intervals-last.result ≡ intervals (job_on c.args.job.now c.args.line) = c.intervals-last.ensures ∙ sym (intervals_on _ (line_is c.args.line) ∙ intervals_are _ _ c.requires.0.opens) in
    let room : c.intervals-last.result * c.layer_words-size.result + c.layer_words-size.result ≤ length c.args.table.now = rw (total_is, size_is) (room_for_last (job_on c.args.job.now c.args.line) c.args.table.now c.requires.2) in
    simp (length-take, length-drop) (omega (arith, room))

pub fill_layers-requires : goal.fill_layers-requires
unfolding plain on_line
fill_layers-requires c =
    -- the layer's size and the number of intervals are the job's, and there is room for the last layer
    let size_is : c.layer_words-size.result ≡ layer_words (line_is c.args.line) = c.layer_words-size.ensures in
    let total_is : c.intervals-last.result ≡ intervals (job_on c.args.job.now c.args.line) = c.intervals-last.ensures ∙ sym (intervals_on _ (line_is c.args.line) ∙ intervals_are _ _ c.requires.0.opens) in
    let room : c.intervals-last.result * c.layer_words-size.result + c.layer_words-size.result ≤ length c.args.table.now = rw (total_is, size_is) (room_for_last (job_on c.args.job.now c.args.line) c.args.table.now c.requires.2) in
    let room-on : (c.intervals-last.result + 1) * layer_words (line_is c.args.line) ≤ length c.args.table.now = rw (← size_is) (omega (arith, add-mul c.intervals-last.result 1 c.layer_words-size.result, one-mul c.layer_words-size.result, room)) in
    let small : Bounded (job_on c.args.job.now c.args.line) = bounded_on _ (line_is c.args.line) (bounded _ (job_formed _ _ c.requires.0.opens)) in
    let e = last_written (job_on c.args.job.now c.args.line) c.args.table.now c.fill_last.new.part c.intervals-last.result c.layer_words-size.result total_is size_is c.fill_last.ensures in
    record {
      starts = c.requires.0;
      ends = omega (arith, c.intervals-last.ensures, c.requires.1);
      few = omega (arith, c.intervals-last.ensures);
      room = rw (last_long (combine c.args.measure) _ (open_of (lines c.args.header.units c.args.pins.now) c.args.limit) (combine_combines c.args.measure) small c.args.table.now _ c.requires.2 e) room-on;
    }

pub returns : goal.returns
unfolding plain on_line
returns c =
    -- the layer's size and the number of intervals are the job's, and there is room for the last layer
    let size_is : c.layer_words-size.result ≡ layer_words (line_is c.args.line) = c.layer_words-size.ensures in
    let total_is : c.intervals-last.result ≡ intervals (job_on c.args.job.now c.args.line) = c.intervals-last.ensures ∙ sym (intervals_on _ (line_is c.args.line) ∙ intervals_are _ _ c.requires.0.opens) in
    let small : Bounded (job_on c.args.job.now c.args.line) = bounded_on _ (line_is c.args.line) (bounded _ (job_formed _ _ c.requires.0.opens)) in
    let m = open_of (lines c.args.header.units c.args.pins.now) c.args.limit in
    let e = last_written (job_on c.args.job.now c.args.line) c.args.table.now c.fill_last.new.part c.intervals-last.result c.layer_words-size.result total_is size_is c.fill_last.ensures in
    table_filled _ (combine_combines c.args.measure) _ m small c.args.table.now _ _ c.requires.2 e c.args.first c.intervals-last.result (omega (arith, c.requires.1, c.intervals-last.ensures, total_is)) total_is c.fill_layers.ensures
