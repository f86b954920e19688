-- Which numbers a job is refused by: those of its records, 1 to 5, and by the door of opening 17 (`OwnNumbers`).
use Prim.Native.Nat.{ℕ, zero, suc}
use mathlib.Core.Path.{◌≡◌, refl, sym, ap, subst, ◌∙◌}
use mathlib.Core.Bool.{Bool, true, false}
use mathlib.Core.Option.{Option, none, some}
use mathlib.Core.Logic.{inl, inr}
use mathlib.Core.List.{List, [], ◌∷◌}
use native.Mathlib.Omega.{arith}
use lib.Dec.{ltb, eqb}
use lib.ListN.{length, drop}
use Rattle.std.specs.Prelude.{if◌then◌else◌}
use Rattle.base.proofs.Tests.{branch}
use Rattle.format.specs.Fields.{total, fields}
use Rattle.format.specs.Limits.{Limit, kept, broken}
use Rattle.format.specs.Parser.{Result, refused, took, Parser, done, further, onward, ◌>>=◌, unless_refused, with_value, many}
use Rattle.format.specs.Records.{Form, block, head_widths, head_limits, record_due, kind_in, form_for, record_either}
use Rattle.format.specs.JobBytes.{Policed, Header, codings, header_form, rates_form, unit_form, header_read, draining, header_parser, unit_parser, drain_limits, Door, opening, archive, parse}
use Rattle.format.specs.Claims.{OwnNumber, OwnNumbers}
use Rattle.format.proofs.Limits.{AllOf, not_some, broken_step, broken_here}
use Rattle.format.proofs.Doors.{drains_number}
use Rattle.format.proofs.Opening.{rates_number, codings_number, form_number}

not_refused : {A B : Type 0} {n : ℕ} {a : A} {k : ℕ} → took a k ≡ refused n → B
not_refused e = let z : ◌≡◌ {A = ℕ} 0 1 = cc in absurd (omega arith)

-- limits that all have one refusal are refused by it
broken_of : (k : ℕ) (ls : List Limit) → AllOf k ls → (n : ℕ) → broken ls ≡ some n → k ≡ n
broken_of k [] a n e = unfold broken in (not_some (sym e))
broken_of k (l ∷ ls) a n e = go (kept l) refl (λ f. broken_of k ls a.1 n f)
  where
    go : (t : Bool) → kept l ≡ t → (broken ls ≡ some n → k ≡ n) → k ≡ n
    go true q r = r (sym (broken_step l ls q) ∙ e)
    go false q r = let z : ◌≡◌ {A = Option ℕ} (some l.refusal) (some n) = sym (broken_here l ls q) ∙ e in let i : l.refusal ≡ n = cc in sym a.0 ∙ i

-- drains are looked at by opening alone, which refuses by 17
drain_number : (d : Door) (ks : List Policed) (m : ℕ) → broken (drain_limits d ks) ≡ some m → (d ≡ opening) × (m ≡ 17)
drain_number opening ks m q = (refl, sym (broken_of 17 (drain_limits opening ks) (drains_number opening ks) m q))
drain_number archive ks m q = unfold broken in (not_some (sym q))

module _ (d : Door) where
  -- a reading that is refused by such numbers alone
  abbrev Numbered : {A : Type 0} → Parser A → Type 0
  Numbered p = (b : List ℕ) (n : ℕ) → p b ≡ refused n → OwnNumber d n

  block_numbered : (ws : List ℕ) (limits : List ℕ → List Limit) (k : ℕ) → ((vs : List ℕ) → AllOf k (limits vs)) → OwnNumber d k → Numbered (block ws limits)
  unfolding block unless_refused
  block_numbered ws limits k all own b n = go (ltb (length b) (total ws)) (broken (limits (fields ws b))) refl
    where
      go : (t : Bool) (o : Option ℕ) → broken (limits (fields ws b)) ≡ o → (if t then refused 1 else unless_refused o (took (fields ws b) (total ws))) ≡ refused n → OwnNumber d n
      go true o q e = let i : 1 ≡ n = cc in subst (OwnNumber d) i (inl (omega arith, omega arith))
      go false (some m) q e = let i : m ≡ n = cc in subst (OwnNumber d) (broken_of k (limits (fields ws b)) (all (fields ws b)) m q ∙ i) own
      go false none q e = not_refused e

  bind_numbered : {A B : Type 0} (p : Parser A) (f : A → Parser B) → Numbered p → ((a : A) → Numbered (f a)) → Numbered (p >>= f)
  unfolding ◌>>=◌ onward further
  bind_numbered {A} {B} p f h g b n = first (p b) refl
    where
      after : (a : A) (k : ℕ) (r : Result B) → f a (drop k b) ≡ r → further k r ≡ refused n → OwnNumber d n
      after a k (refused m) q e = let i : m ≡ n = cc in g a (drop k b) n (q ∙ ap refused i)
      after a k (took c m) q e = not_refused e

      first : (r : Result A) → p b ≡ r → onward r f b ≡ refused n → OwnNumber d n
      first (refused m) q e = let i : m ≡ n = cc in h b n (q ∙ ap refused i)
      first (took a k) q e = after a k (f a (drop k b)) refl e

  done_numbered : {A : Type 0} (a : A) → Numbered (done a)
  unfolding done
  done_numbered a b n e = not_refused e

  many_numbered : {A : Type 0} (p : Parser A) → Numbered p → (m : ℕ) → Numbered (many m p)
  unfolding many
  many_numbered p h zero = done_numbered []
  many_numbered p h (suc m) = bind_numbered p _ h (λ a. bind_numbered (many m p) _ (many_numbered p h m) (λ rest. done_numbered (a ∷ rest)))

  -- a record: 1, 2, and the number of its own limits
  record_numbered : (f : Form) (k : ℕ) → ((vs : List ℕ) → AllOf k (f.limits vs)) → OwnNumber d k → Numbered (record_due f)
  unfolding record_due
  record_numbered f k all own = bind_numbered (block head_widths (head_limits f)) _ (block_numbered head_widths (head_limits f) 2 (λ vs. unfold head_limits in (refl, (refl, tt))) (inl (omega arith, omega arith))) (λ head. block_numbered f.widths f.limits k all own)

  -- the records of a job
  header_numbered : Numbered header_read
  unfolding header_read
  header_numbered = bind_numbered (record_either (header_form 0) (header_form 1)) _ either (λ r. done_numbered _)
    where
      limits : (kind : ℕ) (vs : List ℕ) → AllOf 3 ((form_for (header_form 0) (header_form 1) kind).limits vs)
      limits kind vs = unfold form_for in (branch (λ (f : Form). AllOf 3 (f.limits vs)) (eqb kind (header_form 1).kind) (λ e. form_number 1 vs) (λ e. form_number 0 vs))

      shown : {A B : Type 0} (f : A → B) (r : Result A) (n : ℕ) → with_value f r ≡ refused n → r ≡ refused n
      shown f (refused m) n e = unfold with_value in cc
      shown f (took a k) n e = unfold with_value in (not_refused e)

      either : Numbered (record_either (header_form 0) (header_form 1))
      either b n e = record_numbered (form_for (header_form 0) (header_form 1) (kind_in b)) 3 (limits (kind_in b)) (inl (omega arith, omega arith)) b n (unfold record_either in (shown _ _ n e))

  draining_numbered : (h : Header) → Numbered (draining d h)
  unfolding draining unless_refused
  draining_numbered h b n = go (broken (drain_limits d h.buckets)) refl
    where
      go : (o : Option ℕ) → broken (drain_limits d h.buckets) ≡ o → unless_refused o (took h 0) ≡ refused n → OwnNumber d n
      go (some m) q e = let i : m ≡ n = cc in let k = drain_number d h.buckets m q in inr (k.0, sym i ∙ k.1)
      go none q e = not_refused e

  rates_numbered : (p : ℕ) → Numbered (record_due (rates_form p))
  rates_numbered p = record_numbered (rates_form p) 4 (λ vs. unfold rates_form in (rates_number 0 vs)) (inl (omega arith, omega arith))

  unit_numbered : (m : ℕ) → Numbered (unit_parser m)
  unfolding unit_parser
  unit_numbered m = bind_numbered (record_due (unit_form m)) _ (record_numbered (unit_form m) 5 (λ vs. unfold unit_form in (codings_number (codings vs))) (inl (omega arith, omega arith))) (λ vs. done_numbered _)

pub own_numbers : OwnNumbers
unfolding parse header_parser
own_numbers d =
    bind_numbered d (header_parser d) _ (bind_numbered d header_read (draining d) (header_numbered d) (draining_numbered d))
    (λ h. bind_numbered d (record_due (rates_form h.rates)) _ (rates_numbered d h.rates) (λ rates. bind_numbered d (many h.units (unit_parser h.choices)) _ (many_numbered d (unit_parser h.choices) (unit_numbered d h.choices) h.units) (λ units. done_numbered d _)))
