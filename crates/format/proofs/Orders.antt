-- In which order a record is looked at: one of any form, and the same where its value is made from the fields or said in another way.
use Prim.Native.Nat.{ℕ, ◌+◌, ◌≤◌, ◌<◌}
use mathlib.Core.Path.{◌≡◌, refl, ap, ap₂, ◌∙◌}
use mathlib.Core.List.{List, [], ◌∷◌}
use native.Mathlib.Omega.{arith}
use native.Mathlib.Nat.{add-zero}
use lib.ListN.{length, drop, length-drop}
use Rattle.format.specs.Fields.{total, fields}
use Rattle.format.specs.Limits.{AllKept}
use Rattle.format.specs.Parser.{refused, took, Parser, done, ◌>>=◌}
use Rattle.format.specs.Records.{Form, block, head_widths, head_limits, record_due}
use Rattle.format.specs.Claims.{u16_at, Due, HeadOrder, BodyOrder, RecordOrder}
use Rattle.format.proofs.Fields.{two_at}
use Rattle.format.proofs.Limits.{AllOf, none_broken, broken_one}
use Rattle.format.proofs.Records.{block_short, block_took, block_broken}
use Rattle.format.proofs.Parsing.{bind_refused, bind_took, bind_later}

-- a record of which not even the head is there
pub due_short : (f : Form) (b : List ℕ) → length b < 4 → record_due f b ≡ refused 1
unfolding record_due
due_short f b h = bind_refused (block head_widths (head_limits f)) (λ v. block f.widths f.limits) b 1 (block_short head_widths (head_limits f) b (unfold total in h))

-- the record of any form, whose limits are all refused by one number
module _ (f : Form) (body number : ℕ) (size : total f.widths ≡ body) (one : (vs : List ℕ) → AllOf number (f.limits vs)) (b : List ℕ) where
  head_is : 4 ≤ length b → fields head_widths b ≡ u16_at b 0 ∷ u16_at b 2 ∷ []
  unfolding fields
  head_is h = ap₂ (λ (x y : ℕ). x ∷ y ∷ []) (two_at b 0 (omega arith)) (two_at b 2 (omega arith))

  head_taken : 4 ≤ length b → Due f.kind body b → block head_widths (head_limits f) b ≡ took (fields head_widths b) 4
  unfolding total head_limits
  head_taken h d = block_took head_widths (head_limits f) b h (rw (head_is h) (none_broken _ (omega arith)))

  head_refused : 4 ≤ length b → (Due f.kind body b → ⊥) → block head_widths (head_limits f) b ≡ refused 2
  unfolding total head_limits
  head_refused h d = block_broken head_widths (head_limits f) b 2 h (rw (head_is h) (broken_one 2 _ (refl, (refl, tt)) (λ k. d (omega arith))))

  body_there : 4 + body ≤ length b → total f.widths ≤ length (drop 4 b)
  body_there h = rw length-drop (omega arith)

  pub due_head : HeadOrder (record_due f) (Due f.kind body b) b
  unfolding record_due
  due_head = record {
    head_there = λ h. due_short f b h;
    then_due = λ h d. bind_refused (block head_widths (head_limits f)) (λ v. block f.widths f.limits) b 2 (head_refused h d);
  }

  pub due_body : BodyOrder (record_due f) f.kind body number (λ l. fields f.widths (drop 4 l)) (λ vs. AllKept (f.limits vs)) b
  unfolding record_due
  due_body = record {
    then_body = λ h d l. bind_later (block head_widths (head_limits f)) (λ v. block f.widths f.limits) b (fields head_widths b) 4 1 (head_taken h d) (block_short f.widths f.limits (drop 4 b) (rw length-drop (omega arith)));
    then_fields = λ h d k. bind_later (block head_widths (head_limits f)) (λ v. block f.widths f.limits) b (fields head_widths b) 4 number (head_taken (omega arith) d) (block_broken f.widths f.limits (drop 4 b) number (body_there h) (broken_one number _ (one _) k));
    else_read = λ h d k. bind_took (block head_widths (head_limits f)) (λ v. block f.widths f.limits) b (fields head_widths b) 4 (fields f.widths (drop 4 b)) (total f.widths) (head_taken (omega arith) d) (block_took f.widths f.limits (drop 4 b) (body_there h) (none_broken _ k)) ∙ ap (λ (n : ℕ). took (fields f.widths (drop 4 b)) (4 + n)) size;
  }

  pub due_order : RecordOrder (record_due f) f.kind body number (λ l. fields f.widths (drop 4 l)) (λ vs. AllKept (f.limits vs)) b
  due_order = record { head = due_head; rest = due_body }

-- the same of a value made from the fields
pub head_mapped : {A C : Type 0} (read : Parser A) (g : A → C) (Expected : Type 0) (b : List ℕ) → HeadOrder read Expected b → HeadOrder (read >>= λ a. done (g a)) Expected b
head_mapped read g Expected b o = record {
  head_there = λ h. bind_refused read _ b 1 (o.head_there h);
  then_due = λ h d. bind_refused read _ b 2 (o.then_due h d);
}

pub body_mapped : {A C : Type 0} (read : Parser A) (g : A → C) (kind body number : ℕ) (value : List ℕ → A) (Kept : C → Type 0) (b : List ℕ) → BodyOrder read kind body number value (λ a. Kept (g a)) b → BodyOrder (read >>= λ a. done (g a)) kind body number (λ l. g (value l)) Kept b
unfolding done
body_mapped read g kind body number value Kept b o = record {
  then_body = λ h d l. bind_refused read _ b 1 (o.then_body h d l);
  then_fields = λ h d k. bind_refused read _ b number (o.then_fields h d k);
  else_read = λ h d k. bind_took read _ b (value b) (4 + body) (g (value b)) 0 (o.else_read h d k) refl ∙ rw add-zero;
}

pub mapped : {A C : Type 0} (read : Parser A) (g : A → C) (kind body number : ℕ) (value : List ℕ → A) (Kept : C → Type 0) (b : List ℕ) → RecordOrder read kind body number value (λ a. Kept (g a)) b → RecordOrder (read >>= λ a. done (g a)) kind body number (λ l. g (value l)) Kept b
mapped read g kind body number value Kept b o = record {
  head = head_mapped read g (Due kind body b) b o.head;
  rest = body_mapped read g kind body number value Kept b o.rest;
}

-- the same where the value is said in another way
pub revalued : {A : Type 0} (read : Parser A) (kind body number : ℕ) (value other : List ℕ → A) (Kept : A → Type 0) (b : List ℕ) → (4 + body ≤ length b → value b ≡ other b) → BodyOrder read kind body number value Kept b → BodyOrder read kind body number other Kept b
revalued read kind body number value other Kept b e o = record {
  then_body = o.then_body;
  then_fields = λ h d k. o.then_fields h d (λ q. k (rw (e h) at q));
  else_read = λ h d k. o.else_read h d (rw (e h) k) ∙ ap (λ a. took a (4 + body)) (e h);
}
