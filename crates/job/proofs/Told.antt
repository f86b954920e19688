-- A record of either of two forms, of which the kind that is looked up in the bytes tells which: its refusal and its values are those of that form.
use Prim.Native.Nat.{ℕ, ◌+◌, ◌<◌, ◌≤◌}
use mathlib.Core.Path.{◌≡◌, sym, ◌∙◌, ap}
use mathlib.Core.Bool.{Bool}
use mathlib.Core.Option.{none, some}
use mathlib.Core.List.{List}
use native.Mathlib.Decide.{dec_lt}
use native.Mathlib.Omega.{arith}
use lib.Dec.{eqb}
use lib.ListN.{length, drop}
use Rattle.std.specs.Prelude.{if◌then◌else◌}
use Rattle.base.proofs.Refusals.{some_same}
use Rattle.format.specs.Fields.{total, fields}
use Rattle.format.specs.Parser.{refused, took, refusal_of, with_value}
use Rattle.format.specs.Records.{Form, kind_in, form_for, filled, record_due, record_either}
use Rattle.format.specs.Places.{field_at}
use Rattle.format.proofs.Orders.{due_short}
use Rattle.format.proofs.Parsing.{has_refused, record_is, record_took}
use Rattle.format.proofs.Places.{field_there}

module _ (f g : Form) (b : List ℕ) (second : Bool) (t : second ≡ eqb (field_at 2 b 2) g.kind) (F : Form) (is : (if second then g else f) ≡ F) where
  form_is : 4 ≤ length b → form_for f g (kind_in b) ≡ F
  unfolding form_for kind_in
  form_is h = ap (λ (k : ℕ). if eqb k g.kind then g else f) (sym (field_there 2 b 2 h)) ∙ ap (λ (s : Bool). if s then g else f) (sym t) ∙ is

  pub told_refused : (n : ℕ) → refusal_of (record_due F b) ≡ some n → record_either f g b ≡ refused n
  unfolding record_either with_value
  told_refused n e = go (dec_lt (length b) 4)
    where
      cut : (G : Form) → length b < 4 → record_due G b ≡ refused 1
      cut G h = due_short G b h

      go : Dec (length b < 4) → record_either f g b ≡ refused n
      go (yes h) =
          let one : n ≡ 1 = some_same (sym e ∙ unfold refusal_of in (ap refusal_of (cut F h))) in
          rw (cut (form_for f g (kind_in b)) h, one)
      go (no h) = rw (form_is (omega arith), has_refused (record_due F b) n e)

  pub told_took : refusal_of (record_due F b) ≡ none → record_either f g b ≡ took (filled F (fields F.widths (drop 4 b))) (4 + total F.widths)
  unfolding record_either with_value
  told_took e =
      let r = record_took F b e in
      let h : 4 ≤ length b = omega (arith, (record_is F b _ _ r).there) in
      rw (form_is h, r)
