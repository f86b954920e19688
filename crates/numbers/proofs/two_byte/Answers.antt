-- `numbers::two_byte` meets its contract: the numbers before the place are of two bytes, whichever turn the loop is at.
use Prim.Native.Nat.{ℕ, ◌+◌, ◌<◌, ◌≤◌}
use mathlib.Core.Path.{◌≡◌, sym, ◌∙◌}
use mathlib.Core.List.{List}
use native.Mathlib.Omega.{arith}
use lib.ListN.{length, get_or, take, drop, length-drop}
use lib.Seq.{get_or-drop, length-take-le}
use borrow.Author.Tests.{lt-ltb, le-ltb}
use Rattle.std.proofs.lemmas.List.{get_or-take}
use Rattle.base.proofs.All.{all_none, all_more, all_stop}
use Rattle.pinning.specs.Numbers.{two_byte}
use Rattle.numbers.proofs.two_byte.Goals as goal

-- the numbers that the loop goes over
items_long : (l : List ℕ) → 528 ≤ length l → length (take 524 (drop 1 l)) ≡ 524
items_long l h = length-take-le 524 (drop 1 l) (omega (arith, length-drop 1 l))

item_is : (l : List ℕ) (i : ℕ) → i < 524 → get_or (take 524 (drop 1 l)) i 0 ≡ get_or l (1 + i) 0
item_is l i h = get_or-take 524 (drop 1 l) i 0 h ∙ get_or-drop 1 l i 0

pub loop-number-init : goal.loop-number-init
unfolding two_byte
loop-number-init c = (omega arith, all_none _)

pub returns-then-number-ge-PAST : goal.returns-then-number-ge-PAST
unfolding two_byte
returns-then-number-ge-PAST c =
    let h : c.loop-number.number-index < 524 = omega (arith, items_long _ c.requires) in
    all_stop _ c.loop-number.number-index 524 h (le-ltb _ 65536 (rw (item_is c.args.list.now c.loop-number.number-index h) at c.if-number-ge-PAST.true))

pub loop-number-preserved : goal.loop-number-preserved
unfolding two_byte
loop-number-preserved c =
    let h : c.loop-number.number-index < 524 = omega (arith, items_long _ c.requires) in
    (omega arith, all_more _ _ c.loop-number.invariant.1 (lt-ltb _ 65536 (rw (item_is c.args.list.now c.loop-number.number-index h) at c.if-number-ge-PAST.false)))

pub returns : goal.returns
returns c =
    let e : c.loop-number.number-index ≡ 524 = omega (arith, items_long _ c.requires) in
    sym (rw e at c.loop-number.invariant.1)
