-- `best::best_entry` meets its contract.
use Rattle.best.proofs.Places.{spans, offered, first_found}
use native.Mathlib.Omega.{arith}
use Rattle.best.proofs.best_entry.Goals as goal

pub overflow_add-here : goal.overflow_add-here
overflow_add-here c =
    let s = spans _ _ _ _ _ _ _ _ c.requires _ _ c.layer_words-size.ensures c.word_place.ensures in
    record { fits = omega arith }

pub offset_bounds-table-here : goal.offset_bounds-table-here
offset_bounds-table-here c =
    let s = spans _ _ _ _ _ _ _ _ c.requires _ _ c.layer_words-size.ensures c.word_place.ensures in
    record { fits = omega arith }

pub bounds-table-here : goal.bounds-table-here
bounds-table-here c =
    let s = spans _ _ _ _ _ _ _ _ c.requires _ _ c.layer_words-size.ensures c.word_place.ensures in
    omega arith

pub first_entry-requires : goal.first_entry-requires
first_entry-requires c =
    offered _ _ _ _ _ _ _ _ c.requires _ _ c.layer_words-size.ensures c.word_place.ensures

pub returns : goal.returns
returns c =
    first_found _ _ _ _ _ _ _ _ c.requires _ _ c.layer_words-size.ensures c.word_place.ensures _ _ c.first_entry.ensures
