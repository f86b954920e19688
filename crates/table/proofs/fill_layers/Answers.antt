-- `table::fill_layers` meets its contract.
use Rattle.table.proofs.Tabling.{filling_none, long, starts, room_for_two, filling_more}
use Rattle.table.proofs.Jobs.{choices_on, few_units}
use Rattle.table.specs.Answers.{allowed_is}
use Rattle.header.specs.Answers.{plain}
use Rattle.model.specs.Job.{on_line}
use lib.ListN.{length, length-take, length-drop}
use mathlib.Core.Path.{◌≡◌, refl, ap}
use Prim.Native.Nat.{ℕ, ◌≤◌, ◌+◌, ◌-◌, ◌*◌}
use native.Mathlib.Omega.{arith}
use Rattle.table.proofs.fill_layers.Goals as goal

pub loop-place-init : goal.loop-place-init
unfolding on_line
loop-place-init c =
    filling_none _ _ _ _ _ _ _ _ c.requires.ends refl (ap (λ (n : ℕ). c.args.last * n) c.layer_words-size.ensures)

pub overflow_sub-start : goal.overflow_sub-start
unfolding on_line
overflow_sub-start c =
    -- there is room for two layers, and the table is as long as it was
    let two : (c.layer_words-size.result ≤ c.loop-place.start) × (c.loop-place.start - c.layer_words-size.result + (c.layer_words-size.result + c.layer_words-size.result) ≤ length c.loop-place.table) × (length c.loop-place.table ≡ length c.args.table.now) = rw c.layer_words-size.ensures (starts _ _ _ _ _ _ c.loop-place.place c.loop-place.start c.loop-place.table c.loop-place.invariant c.requires.room c.loop-place-test.true, room_for_two _ _ _ _ _ _ c.loop-place.place c.loop-place.start c.loop-place.table c.loop-place.invariant c.requires.room c.loop-place-test.true, long _ _ _ _ _ _ c.loop-place.place c.loop-place.start c.loop-place.table c.loop-place.invariant c.requires.room) in
    two.0

pub choices_in-choices-requires : goal.choices_in-choices-requires
unfolding plain
choices_in-choices-requires c =
    (c.requires.starts.pins_size, few_units _ _ c.requires.starts.opens, omega (arith, c.loop-place.invariant.high, c.requires.few))

pub offset_bounds-table-start : goal.offset_bounds-table-start
unfolding on_line
offset_bounds-table-start c =
    -- there is room for two layers, and the table is as long as it was
    let two : (c.layer_words-size.result ≤ c.loop-place.start) × (c.loop-place.start - c.layer_words-size.result + (c.layer_words-size.result + c.layer_words-size.result) ≤ length c.loop-place.table) × (length c.loop-place.table ≡ length c.args.table.now) = rw c.layer_words-size.ensures (starts _ _ _ _ _ _ c.loop-place.place c.loop-place.start c.loop-place.table c.loop-place.invariant c.requires.room c.loop-place-test.true, room_for_two _ _ _ _ _ _ c.loop-place.place c.loop-place.start c.loop-place.table c.loop-place.invariant c.requires.room c.loop-place-test.true, long _ _ _ _ _ _ c.loop-place.place c.loop-place.start c.loop-place.table c.loop-place.invariant c.requires.room) in
    omega (arith, two)

pub slice_bounds-fill_layer-count : goal.slice_bounds-fill_layer-count
unfolding on_line
slice_bounds-fill_layer-count c =
    -- there is room for two layers, and the table is as long as it was
    let two : (c.layer_words-size.result ≤ c.loop-place.start) × (c.loop-place.start - c.layer_words-size.result + (c.layer_words-size.result + c.layer_words-size.result) ≤ length c.loop-place.table) × (length c.loop-place.table ≡ length c.args.table.now) = rw c.layer_words-size.ensures (starts _ _ _ _ _ _ c.loop-place.place c.loop-place.start c.loop-place.table c.loop-place.invariant c.requires.room c.loop-place-test.true, room_for_two _ _ _ _ _ _ c.loop-place.place c.loop-place.start c.loop-place.table c.loop-place.invariant c.requires.room c.loop-place-test.true, long _ _ _ _ _ _ c.loop-place.place c.loop-place.start c.loop-place.table c.loop-place.invariant c.requires.room) in
    omega (arith, two)

pub slice_bounds-fill_layer-start : goal.slice_bounds-fill_layer-start
unfolding on_line
slice_bounds-fill_layer-start c =
    -- there is room for two layers, and the table is as long as it was
    let two : (c.layer_words-size.result ≤ c.loop-place.start) × (c.loop-place.start - c.layer_words-size.result + (c.layer_words-size.result + c.layer_words-size.result) ≤ length c.loop-place.table) × (length c.loop-place.table ≡ length c.args.table.now) = rw c.layer_words-size.ensures (starts _ _ _ _ _ _ c.loop-place.place c.loop-place.start c.loop-place.table c.loop-place.invariant c.requires.room c.loop-place-test.true, room_for_two _ _ _ _ _ _ c.loop-place.place c.loop-place.start c.loop-place.table c.loop-place.invariant c.requires.room c.loop-place-test.true, long _ _ _ _ _ _ c.loop-place.place c.loop-place.start c.loop-place.table c.loop-place.invariant c.requires.room) in
    omega (arith, two)

pub fill_layer-requires : goal.fill_layer-requires
unfolding on_line
fill_layer-requires c =
    -- there is room for two layers, and the table is as long as it was
    let two : (c.layer_words-size.result ≤ c.loop-place.start) × (c.loop-place.start - c.layer_words-size.result + (c.layer_words-size.result + c.layer_words-size.result) ≤ length c.loop-place.table) × (length c.loop-place.table ≡ length c.args.table.now) = rw c.layer_words-size.ensures (starts _ _ _ _ _ _ c.loop-place.place c.loop-place.start c.loop-place.table c.loop-place.invariant c.requires.room c.loop-place-test.true, room_for_two _ _ _ _ _ _ c.loop-place.place c.loop-place.start c.loop-place.table c.loop-place.invariant c.requires.room c.loop-place-test.true, long _ _ _ _ _ _ c.loop-place.place c.loop-place.start c.loop-place.table c.loop-place.invariant c.requires.room) in
    let d = choices_on _ _ c.args.line _ _ _ _ c.requires.starts (omega (arith, c.loop-place.invariant.high, c.requires.few)) c.choices_in-choices.ensures in
    (c.requires.starts.line, d.fits, rw (← c.layer_words-size.ensures) (simp (length-take, length-drop) (omega (arith, two))))

pub loop-place-preserved : goal.loop-place-preserved
unfolding on_line plain
loop-place-preserved c =
    let d = choices_on c.args.job.now (plain c.args.header) c.args.line _ _ _ _ c.requires.starts (omega (arith, c.loop-place.invariant.high, c.requires.few)) c.choices_in-choices.ensures in
    filling_more _ _ _ _ _ _ c.loop-place.place c.loop-place.start c.loop-place.table c.loop-place.invariant c.requires.room c.loop-place-test.true _ c.layer_words-size.ensures _ _ (allowed_is c.args.job.now (plain c.args.header) c.choices_in-choices.result) refl d.count d.each _ c.fill_layer.ensures
