-- A call whose refusal is found first, then room for its values.
use Prim.Native.Nat.{ℕ, ◌<◌, ◌≤◌}
use mathlib.Core.Path.{◌≡◌, sym, ◌∙◌}
use mathlib.Core.Option.{Option, none, some}
use mathlib.Core.List.{List}
use lib.ListN.{length}
use borrow.Author.Tests.{lt-leb, le-leb}
use Rattle.base.specs.Refusals.{refusal, unless, first}
use Rattle.base.proofs.Refusals.{refusal_here, refusal_last, unless_some, unless_none}
use Rattle.exporting.specs.Exports.{room_for}

module _ {R : Type 0} (refuse : ℕ → R) (o : Option ℕ) (least : ℕ) (values : List ℕ) (work : R) where
  abbrev whole : R
  whole = unless refuse (first o (refusal (room_for least values))) work

  pub before : (n : ℕ) → some n ≡ o → refuse n ≡ whole
  before n e = sym (unless_some refuse _ n work (unless_some some o n _ (sym e)))

  module _ (e : none ≡ o) where
    pub few : length values < least → refuse 12 ≡ whole
    few l = sym (unless_some refuse _ 12 work (unless_none some o _ (sym e) ∙ refusal_here _ _ (lt-leb least (length values) l)))

    pub behind : least ≤ length values → whole ≡ work
    behind l = unless_none refuse _ work (unless_none some o _ (sym e) ∙ refusal_last _ (le-leb least (length values) l))
