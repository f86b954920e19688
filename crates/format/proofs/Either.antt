-- Records of either of two forms: there and back, `exact_either`, and in which order they are refused, `either_head` and `either-body`.
use Prim.Native.Nat.{ℕ, ◌≤◌}
use mathlib.Core.Path.{◌≡◌, refl, sym, ap, ◌∙◌}
use mathlib.Core.Logic.{◌⊎◌, inl, inr}
use mathlib.Core.Bool.{Bool, true, false}
use mathlib.Core.List.{List, ◌++◌, append_assoc}
use native.Mathlib.Omega.{arith}
use lib.Dec.{eqb}
use lib.ListN.{length, get_or, take, drop}
use borrow.Author.Tests.{eq-eqb, ne_eqb}
use Rattle.std.specs.Prelude.{if◌then◌else◌}
use Rattle.format.specs.Fields.{number, total, fields, spelled, Fit, Bytes}
use Rattle.format.specs.Limits.{AllKept}
use Rattle.format.specs.Parser.{Result, refused, took, with_value}
use Rattle.format.specs.Records.{Form, head_widths, head_values, record_due, record_bytes, kind_in, form_for, Filled, filled, record_either, filled_bytes}
use Rattle.format.specs.Claims.{Due, HeadOrder, BodyOrder}
use Rattle.format.proofs.Fields.{two_at}
use Rattle.format.proofs.Limits.{AllOf}
use Rattle.format.proofs.Parsing.{RecordTook, not_took, record_is}
use Rattle.format.proofs.Spelling.{fields_spelled}
use Rattle.format.proofs.Exact.{Exact, Back, RecordGood, exact_record}
use Rattle.format.proofs.Orders.{due_head, due_body}

-- the kind of a record that was read, and of one that was written
second : List ℕ → ℕ
second l = get_or l 1 0

kind_told : (f : Form) (b vs : List ℕ) (n : ℕ) → record_due f b ≡ took vs n → kind_in b ≡ f.kind
unfolding kind_in second fields head_values
kind_told f b vs n e = ap second (record_is f b vs n e).head

kind_written : (f : Form) (vs rest : List ℕ) → Fit head_widths (head_values f) → kind_in (record_bytes f vs ++ rest) ≡ f.kind
unfolding kind_in record_bytes
kind_written f vs rest h =
    rw (append_assoc (spelled head_widths (head_values f)) (spelled f.widths vs) rest)
    (go (spelled f.widths vs ++ rest))
  where
    go : (more : List ℕ) → number (take 2 (drop 2 (spelled head_widths (head_values f) ++ more))) ≡ f.kind
    go more = unfold second fields head_values in (ap second (fields_spelled h more))

-- a result with another value
valued : {A C : Type 0} (g : A → C) (r : Result A) (c : C) (n : ℕ) → with_value g r ≡ took c n → (a : A) × (r ≡ took a n) × (c ≡ g a)
unfolding with_value
valued g (refused k) c n e = not_took e
valued g (took a k) c n e = let q : k ≡ n = cc in (a, ap (took a) q, cc)

module _ (f g : Form) where
  -- values that a record of its kind can have
  pub record FilledGood (r : Filled) : Type 0 where
    pub due : (form_for f g r.kind).kind ≡ r.kind
    pub good : RecordGood (form_for f g r.kind) r.values

  either_told : (b vs : List ℕ) (n : ℕ) (F : Form) → form_for f g (kind_in b) ≡ F → record_due F b ≡ took vs n → form_for f g F.kind ≡ F
  either_told b vs n F p e = ap (form_for f g) (sym (kind_told F b vs n e)) ∙ p

  either_took : (b vs : List ℕ) (n : ℕ) (F : Form) → form_for f g (kind_in b) ≡ F → record_due F b ≡ took vs n → record_either f g b ≡ took (filled F vs) n
  unfolding record_either with_value
  either_took b vs n F p e = rw (p, e)

  either_forth : ((k : ℕ) → Fit head_widths (head_values (form_for f g k))) → (r : Filled) → FilledGood r → (rest : List ℕ) → record_either f g (filled_bytes f g r ++ rest) ≡ took r (length (filled_bytes f g r))
  unfolding filled_bytes
  either_forth head r h rest =
      let F = form_for f g r.kind in
      let bytes = record_bytes F r.values in
      let k : kind_in (bytes ++ rest) ≡ r.kind = kind_written F r.values rest (head r.kind) ∙ h.due in
      either_took (bytes ++ rest) r.values (length bytes) F (ap (form_for f g) k) ((exact_record F (head r.kind)).forth r.values h.good rest)
      ∙ ap (λ (n : ℕ). took (record { kind = n; values = r.values }) (length bytes)) h.due

  either_back : ((k : ℕ) → Fit head_widths (head_values (form_for f g k))) → (b : List ℕ) → Bytes b → (r : Filled) (n : ℕ) → record_either f g b ≡ took r n → Back FilledGood (filled_bytes f g) b r n
  unfolding filled_bytes record_either
  either_back head b B r n e =
      let F = form_for f g (kind_in b) in
      let v = valued (filled F) (record_due F b) r n e in
      let t = either_told b v.0 n F refl v.1 in
      let x = (exact_record F (head (kind_in b))).back b B v.0 n v.1 in
      rw v.2 (record {
        size = x.size;
        same = rw t x.same;
        good = record { due = ap (λ (G : Form). G.kind) t; good = rw t x.good };
      })

  -- the record that was read, of its form
  pub either_is : (b : List ℕ) (r : Filled) (n : ℕ) → record_either f g b ≡ took r n → RecordTook (form_for f g (kind_in b)) b r.values n
  unfolding record_either
  either_is b r n e =
      let F = form_for f g (kind_in b) in
      let v = valued (filled F) (record_due F b) r n e in
      rw v.2 (record_is F b v.0 n v.1)

  -- what a record takes: its head and its body
  pub either_size : (b : List ℕ) (r : Filled) (n : ℕ) → record_either f g b ≡ took r n → (4 ≤ n) × (n ≤ length b)
  either_size b r n e =
      let t = either_is b r n e in
      (omega (arith, t.size), omega (arith, t.size, t.there))

  pub exact_either : ((k : ℕ) → Fit head_widths (head_values (form_for f g k))) → Exact (record_either f g) FilledGood (filled_bytes f g)
  exact_either head = record { forth = either_forth head; back = either_back head }

-- which form a record is of
module _ (f g : Form) (apart : f.kind ≡ g.kind → ⊥) where
  pub first_form : (k : ℕ) → k ≡ f.kind → form_for f g k ≡ f
  unfolding form_for
  first_form k e = rw (e, ne_eqb f.kind g.kind apart)

  pub second_form : (k : ℕ) → k ≡ g.kind → form_for f g k ≡ g
  unfolding form_for
  second_form k e = rw (e, eq-eqb g.kind g.kind refl)

  -- one of the two, whatever the kind
  pub either_form : (k : ℕ) → (form_for f g k ≡ f) ⊎ (form_for f g k ≡ g)
  unfolding form_for
  either_form k = go (eqb k g.kind)
    where
      go : (t : Bool) → ((if t then g else f) ≡ f) ⊎ ((if t then g else f) ≡ g)
      go true = inr refl
      go false = inl refl

-- In which order a record of either form is looked at, where the limits of each are refused by one number.
refused_value : {A C : Type 0} (g : A → C) (r : Result A) (n : ℕ) → r ≡ refused n → with_value g r ≡ refused n
unfolding with_value
refused_value g r n e = rw e

due_kind : (kind body : ℕ) (b : List ℕ) → 4 ≤ length b → Due kind body b → kind_in b ≡ kind
unfolding kind_in
due_kind kind body b h d = two_at b 2 (omega arith) ∙ d.1

module _ (f g : Form) (apart : f.kind ≡ g.kind → ⊥) (fb gb fn gn : ℕ) (fsize : total f.widths ≡ fb) (gsize : total g.widths ≡ gb) (fone : (vs : List ℕ) → AllOf fn (f.limits vs)) (gone : (vs : List ℕ) → AllOf gn (g.limits vs)) (b : List ℕ) where
  of_form : (F : Form) → ((F ≡ f) ⊎ (F ≡ g)) → HeadOrder (record_due F) (Due f.kind fb b ⊎ Due g.kind gb b) b
  of_form F (inl e) = rw e (record { head_there = (due_head f fb fn fsize fone b).head_there; then_due = λ h d. (due_head f fb fn fsize fone b).then_due h (λ k. d (inl k)) })
  of_form F (inr e) = rw e (record { head_there = (due_head g gb gn gsize gone b).head_there; then_due = λ h d. (due_head g gb gn gsize gone b).then_due h (λ k. d (inr k)) })

  pub either_head : HeadOrder (record_either f g) (Due f.kind fb b ⊎ Due g.kind gb b) b
  unfolding record_either
  either_head =
      let o = of_form (form_for f g (kind_in b)) (either_form f g apart (kind_in b)) in
      record {
        head_there = λ h. refused_value _ _ 1 (o.head_there h);
        then_due = λ h d. refused_value _ _ 2 (o.then_due h d);
      }

  -- the body of the form that is due
  module _ (F : Form) (body number : ℕ) (is : (k : ℕ) → k ≡ F.kind → form_for f g k ≡ F) (o : BodyOrder (record_due F) F.kind body number (λ l. fields F.widths (drop 4 l)) (λ vs. AllKept (F.limits vs)) b) where
    of_body : BodyOrder (record_either f g) F.kind body number (λ l. filled F (fields F.widths (drop 4 l))) (λ r. AllKept (F.limits r.values)) b
    unfolding record_either with_value
    of_body = record {
      then_body = λ h d l. rw (is (kind_in b) (due_kind F.kind body b h d), o.then_body h d l);
      then_fields = λ h d k. rw (is (kind_in b) (due_kind F.kind body b (omega arith) d), o.then_fields h d k);
      else_read = λ h d k. rw (is (kind_in b) (due_kind F.kind body b (omega arith) d), o.else_read h d k);
    }

  pub first_body : BodyOrder (record_either f g) f.kind fb fn (λ l. filled f (fields f.widths (drop 4 l))) (λ r. AllKept (f.limits r.values)) b
  first_body = of_body f fb fn (first_form f g apart) (due_body f fb fn fsize fone b)

  pub second_body : BodyOrder (record_either f g) g.kind gb gn (λ l. filled g (fields g.widths (drop 4 l))) (λ r. AllKept (g.limits r.values)) b
  second_body = of_body g gb gn (second_form f g apart) (due_body g gb gn gsize gone b)
