-- `line::word_at` meets its contract.
use Rattle.line.proofs.Sizes.{layer_small, layer_product}
use Rattle.model.proofs.Places.{layer_each, place_below}
use Rattle.model.proofs.Layers.{word_is}
use Prim.Native.Nat.{◌+◌, ◌*◌, ◌<◌, ◌≤◌}
use native.Mathlib.Omega.{arith}
use lib.ListN.{length}
use Rattle.line.proofs.word_at.Goals as goal

pub overflow_add-here : goal.overflow_add-here
overflow_add-here c =
    -- the words before the layer are few, and so are its own
    let low : (c.args.place * c.layer_words.result ≤ 8589934592) × (c.layer_words.result ≤ 4194304) = let small = layer_small _ c.requires.line in (layer_product c.args.place c.layer_words.result c.requires.few (omega (arith, small, c.layer_words.ensures)), omega (arith, small, c.layer_words.ensures)) in
    let below : c.word_place.result < c.layer_words.result = rw (c.layer_words.ensures, c.word_place.ensures) (place_below (layer_each c.requires.inside)) in
    record { fits = omega (arith, low, below) }

pub offset_bounds-table-here : goal.offset_bounds-table-here
offset_bounds-table-here c =
    -- the words before the layer are few, and so are its own
    let low : (c.args.place * c.layer_words.result ≤ 8589934592) × (c.layer_words.result ≤ 4194304) = let small = layer_small _ c.requires.line in (layer_product c.args.place c.layer_words.result c.requires.few (omega (arith, small, c.layer_words.ensures)), omega (arith, small, c.layer_words.ensures)) in
    let below : c.word_place.result < c.layer_words.result = rw (c.layer_words.ensures, c.word_place.ensures) (place_below (layer_each c.requires.inside)) in
    record { fits = omega (arith, low, below) }

pub bounds-table-here : goal.bounds-table-here
bounds-table-here c =
    let below : c.word_place.result < c.layer_words.result = rw (c.layer_words.ensures, c.word_place.ensures) (place_below (layer_each c.requires.inside)) in
    let inside : c.args.place * c.layer_words.result + c.word_place.result < length c.args.table.now = let room : c.args.place * c.layer_words.result + c.layer_words.result ≤ length c.args.table.now = rw c.layer_words.ensures c.requires.room in omega (arith, room, below) in
    inside

pub returns : goal.returns
returns c =
    rw (c.layer_words.ensures, c.word_place.ensures) (word_is _ _ _ _ c.requires.inside)
