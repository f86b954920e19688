-- Command records: what reading one answers, from the verdict on the record that its kind calls for.
use Prim.Native.Nat.{ℕ, ◌+◌, ◌<◌, ◌≤◌}
use mathlib.Core.Path.{◌≡◌, refl, sym, ◌∙◌, ap}
use mathlib.Core.Option.{none, some}
use mathlib.Core.List.{List}
use native.Mathlib.Decide.{dec_lt}
use native.Mathlib.Omega.{arith}
use lib.ListN.{length, drop}
use lib.Seq.{drop-drop}
use borrow.Author.Tests.{ne_eqb}
use Rattle.base.proofs.Refusals.{some_same}
use Rattle.model.specs.Pins.{pin, lift}
use Rattle.format.specs.Fields.{total, fields}
use Rattle.format.specs.Parser.{done, onward, ◌>>=◌, further, refusal_of, with_value}
use Rattle.format.specs.Parser as P
use Rattle.format.specs.Places.{field_at}
use Rattle.format.specs.Records.{Form, filled, kind_in, form_for, plain_form, record_due, record_either}
use Rattle.format.proofs.Orders.{due_head}
use Rattle.format.proofs.Parsing.{has_refused, record_is, record_took}
use Rattle.format.proofs.Places.{field_there}
use Rattle.fields.proofs.Setting.{field_past}
use Rattle.calling.specs.Commands.{pin_form, lift_form, call_of, command}
use Rattle.calling.proofs.Records.{command_records}

module _ (b : List ℕ) (F : Form) (is : form_for pin_form lift_form (kind_in b) ≡ F) where
  by_refused : (n : ℕ) → some n ≡ refusal_of (record_due F b) → P.refused n ≡ command b
  unfolding command record_either with_value ◌>>=◌ onward
  by_refused n e = rw (is, has_refused (record_due F b) n (sym e))

  by_took : none ≡ refusal_of (record_due F b) → command b ≡ P.took (call_of (filled F (fields F.widths (drop 4 b)))) (4 + total F.widths + 0)
  unfolding command record_either with_value ◌>>=◌ onward further done
  by_took e = rw (is, record_took F b (sym e))

  whole : none ≡ refusal_of (record_due F b) → 4 + total F.widths ≤ length b
  whole e = (record_is F b _ _ (record_took F b (sym e))).there

module _ (b : List ℕ) (kind : ℕ) (k : kind ≡ field_at 2 b 2) where
  kind_is : 4 ≤ length b → kind_in b ≡ kind
  unfolding kind_in
  kind_is h = sym (k ∙ field_there 2 b 2 h)

  -- the kind of a lift
  module _ (e : kind ≡ 7) where
    there : 4 ≤ length b
    there = go (dec_lt (length b) 4)
      where
        go : Dec (length b < 4) → 4 ≤ length b
        go (yes h) = absurd (omega (arith, field_past 2 b 2 h))
        go (no h) = omega arith

    lifts : form_for pin_form lift_form (kind_in b) ≡ plain_form 7 1
    unfolding form_for lift_form plain_form
    lifts = rw (kind_is there, e)

    pub lift_refused : (n : ℕ) → some n ≡ refusal_of (record_due (plain_form 7 1) b) → P.refused n ≡ command b
    lift_refused = by_refused b (plain_form 7 1) lifts

    pub lift_took : none ≡ refusal_of (record_due (plain_form 7 1) b) → (u : ℕ) → u ≡ field_at 2 b 4 → P.took (lift u) 6 ≡ command b
    unfolding call_of plain_form total fields
    lift_took r u q = sym (by_took b (plain_form 7 1) lifts r ∙ rw (q, field_there 2 b 4 (whole b (plain_form 7 1) lifts r)))

  -- any other
  module _ (e : kind ≡ 7 → ⊥) where
    pins : 4 ≤ length b → form_for pin_form lift_form (kind_in b) ≡ plain_form 6 2
    unfolding form_for pin_form lift_form plain_form
    pins h = rw (kind_is h, ne_eqb kind 7 e)

    pub pin_refused : (n : ℕ) → some n ≡ refusal_of (record_due (plain_form 6 2) b) → P.refused n ≡ command b
    pin_refused n r = go (dec_lt (length b) 4)
      where
        cut : length b < 4 → refusal_of (record_due (plain_form 6 2) b) ≡ some 1
        cut h = unfold refusal_of in (ap refusal_of ((due_head (plain_form 6 2) 4 2 (unfold plain_form total in refl) (λ vs. unfold plain_form in tt) b).head_there h))

        go : Dec (length b < 4) → P.refused n ≡ command b
        go (yes h) = ap P.refused (some_same (r ∙ cut h)) ∙ sym ((command_records b).head.head_there h)
        go (no h) = by_refused b (plain_form 6 2) (pins (omega arith)) n r

    pub pin_took : none ≡ refusal_of (record_due (plain_form 6 2) b) → (u x : ℕ) → u ≡ field_at 2 b 4 → x ≡ field_at 2 b 6 → P.took (pin u x) 8 ≡ command b
    unfolding call_of plain_form total fields
    pin_took r u x q s =
        let h : 8 ≤ length b = (record_is (plain_form 6 2) b _ _ (record_took (plain_form 6 2) b (sym r))).there in
        sym (by_took b (plain_form 6 2) (pins (omega arith)) r ∙ rw (q, s, drop-drop, field_there 2 b 4 (omega arith), field_there 2 b 6 h))
