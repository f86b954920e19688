-- Laws of the record that is due, over its form: its head, its shape and its fields, from the verdicts on them.
use Prim.Native.Nat.{ℕ, ◌+◌, ◌-◌, ◌≤◌, ◌<◌}
use mathlib.Core.Path.{◌≡◌, refl, sym, ap, ◌∙◌}
use mathlib.Core.Bool.{Bool, true, false}
use mathlib.Core.Option.{Option, none, some}
use mathlib.Core.List.{List, [], ◌∷◌}
use native.Mathlib.Omega.{arith}
use borrow.Author.Tests.{ltb-false, lt-ltb, le-ltb}
use lib.Dec.{ltb}
use lib.ListN.{length, take, drop, length-drop}
use lib.Seq.{take_all}
use Rattle.std.specs.Prelude.{if◌then◌else◌}
use Rattle.base.specs.Refusals.{unless, first}
use Rattle.base.proofs.Refusals.{first_none}
use Rattle.format.specs.Fields.{total, fields}
use Rattle.format.specs.Fields as bytes
use Rattle.format.specs.Limits.{Limit, limit, broken}
use Rattle.format.specs.Parser.{Result, refused, took, further, onward, ◌>>=◌, unless_refused, refusal_of}
use Rattle.format.specs.Records.{Form, block, head_widths, head_limits, record_due}
use Rattle.format.proofs.Limits.{not_some, is_kept, all_kept}
use Rattle.format.proofs.Parsing.{has_taken, block_is}
use Rattle.std.specs.Prelude.{Ok, Err}
use Rattle.header.specs.declared.refusal.Refusal.{Refusal}
use Rattle.header.proofs.Told.{Verdict}
use Rattle.header.specs.declared.refusal.Refusal.TheVariants as refusals
use Rattle.header.specs.Refusals.{number}
use Rattle.header.specs.Answers.{verdict}
use Rattle.job.specs.Answers.{shape}
use Rattle.header.proofs.Verdicts.{refuses}

-- the rest of a slice, as the borrow checker has it
pub rest_of : (n : ℕ) (l : List ℕ) → take (length l - n) (drop n l) ≡ drop n l
rest_of n l = take_all (length l - n) (drop n l) (rw length-drop (omega arith))

-- the first refusal of three, whichever two are taken together
first_assoc : (x y z : Option ℕ) → first (first x y) z ≡ first x (first y z)
unfolding unless
first_assoc none y z = refl
first_assoc (some n) y z = refl

-- a test that gives no refusal failed
not_refused : (t : Bool) → ◌≡◌ {A = Option ℕ} (if t then some 1 else none) none → t ≡ false
not_refused true e = not_some e
not_refused false e = refl

-- bytes taken before change no refusal
refusal_further : {A : Type 0} (k : ℕ) (r : Result A) → refusal_of (further k r) ≡ refusal_of r
unfolding refusal_of further
refusal_further k (refused n) = refl
refusal_further k (took a m) = refl

-- a refusal that comes before a value is the only one
refusal_unless : {A : Type 0} (o : Option ℕ) (a : A) (k : ℕ) → refusal_of (unless_refused o (took a k)) ≡ o
unfolding refusal_of unless_refused
refusal_unless none a k = refl
refusal_unless (some n) a k = refl

-- the refusal of fields: 1 where they are not wholly there, then their limits
block_first : (ws : List ℕ) (limits : List ℕ → List Limit) (b : List ℕ) → refusal_of (block ws limits b) ≡ first (if ltb (length b) (total ws) then some 1 else none) (broken (limits (fields ws b)))
unfolding block
block_first ws limits b = go (ltb (length b) (total ws))
  where
    go : (t : Bool) → refusal_of (if t then refused 1 else unless_refused (broken (limits (fields ws b))) (took (fields ws b) (total ws))) ≡ first (if t then some 1 else none) (broken (limits (fields ws b)))
    go true = unfold refusal_of unless in refl
    go false = unfold unless in (refusal_unless (broken (limits (fields ws b))) (fields ws b) (total ws))

module _ (f : Form) (len kind : ℕ) where
  -- the length decides where the kind is the one due
  pub head_by : (n : ℕ) → 2 + total f.widths ≡ n → kind ≡ f.kind → (r : Verdict) → verdict r ≡ broken (limit 2 n n len ∷ []) → verdict r ≡ broken (head_limits f (len ∷ kind ∷ []))
  unfolding head_limits broken
  head_by n e k r h = h ∙ rw (e, k, is_kept (limit 2 f.kind f.kind f.kind) (omega arith))

  -- a kind that is not the one due is refused
  pub head_not : (kind ≡ f.kind → ⊥) → some 2 ≡ broken (head_limits f (len ∷ kind ∷ []))
  unfolding head_limits
  head_not g = refuses refusals.NotDue _ (refl, (refl, tt)) (λ o. g (omega (arith, o)))

  -- a head without refusal has the length that is due
  head_length : broken (head_limits f (len ∷ kind ∷ [])) ≡ none → len ≡ 2 + total f.widths
  unfolding head_limits
  head_length e = let o = all_kept (head_limits f (len ∷ kind ∷ [])) e in omega arith

module _ (f : Form) (b : List ℕ) where
  -- a record whose head is not wholly there
  pub shape_short : length b < 4 → some 1 ≡ shape f b
  unfolding shape unless total
  shape_short h = rw (block_first head_widths (head_limits f) b, lt-ltb (length b) 4 h)

  -- where the head is there, its limits and then the body's presence
  shape_there : 4 ≤ length b → shape f b ≡ first (broken (head_limits f (bytes.number (take 2 b) ∷ bytes.number (take 2 (drop 2 b)) ∷ []))) (if ltb (length (drop 4 b)) (total f.widths) then some 1 else none)
  unfolding shape unless total fields
  shape_there h = rw (block_first head_widths (head_limits f) b, le-ltb (length b) 4 h)

  -- the length and the kind are there, and r is the verdict on them
  module _ (len kind : ℕ) (r : Verdict) (h : 4 ≤ length b) (l : len ≡ bytes.number (take 2 b)) (k : kind ≡ bytes.number (take 2 (drop 2 b))) (v : verdict r ≡ broken (head_limits f (len ∷ kind ∷ []))) where
    -- the same with the verdict on the head
    shape_by : shape f b ≡ first (verdict r) (if ltb (length (drop 4 b)) (total f.widths) then some 1 else none)
    shape_by = shape_there h ∙ rw (← l, ← k, ← v)

    -- what the head is refused for comes first
    pub shape_refused : (n : Refusal) → r ≡ Err n → some (number n) ≡ shape f b
    unfolding unless
    shape_refused n e = rw (shape_by, e)

    -- a head that fits has the length that is due
    due : r ≡ Ok tt → len ≡ 2 + total f.widths
    due e = head_length f len kind (sym v ∙ rw e)

    -- then a body that is not wholly there
    pub body_absent : r ≡ Ok tt → length b < len + 2 → some 1 ≡ shape f b
    unfolding unless
    body_absent e a = rw (shape_by, e, lt-ltb (length (drop 4 b)) (total f.widths) (rw length-drop (omega (arith, due e))))

    -- and nothing where it is there
    pub body_there : r ≡ Ok tt → len + 2 ≤ length b → none ≡ shape f b
    unfolding unless
    body_there e a = rw (shape_by, e, le-ltb (length (drop 4 b)) (total f.widths) (rw length-drop (omega (arith, due e))))

  -- the refusal of a head and a body: the head's, then the body's
  then_first : (r : Result (List ℕ)) → ((hd : List ℕ) (k : ℕ) → r ≡ took hd k → k ≡ 4) → refusal_of (onward r (λ h. block f.widths f.limits) b) ≡ first (refusal_of r) (refusal_of (block f.widths f.limits (drop 4 b)))
  unfolding onward refusal_of unless
  then_first (refused k) g = refl
  then_first (took hd k) g = refusal_further k (block f.widths f.limits (drop k b)) ∙ ap (λ m. refusal_of (block f.widths f.limits (drop m b))) (g hd k refl)

  -- a record's refusal: its shape's, then its fields'
  record_refusal : refusal_of (record_due f b) ≡ first (shape f b) (broken (f.limits (fields f.widths (drop 4 b))))
  unfolding record_due ◌>>=◌ shape
  record_refusal =
      then_first (block head_widths (head_limits f) b) (λ hd k e. (block_is head_widths (head_limits f) b hd k e).size ∙ unfold total in refl)
      ∙ rw (block_first f.widths f.limits (drop 4 b))
      (sym (first_assoc (refusal_of (block head_widths (head_limits f) b)) (if ltb (length (drop 4 b)) (total f.widths) then some 1 else none) (broken (f.limits (fields f.widths (drop 4 b))))))

  -- a record whose shape is right is wholly there
  shape_size : shape f b ≡ none → 4 + total f.widths ≤ length b
  unfolding shape total
  shape_size e =
      let n = first_none (refusal_of (block head_widths (head_limits f) b)) (if ltb (length (drop 4 b)) (total f.widths) then some 1 else none) e in
      let t = has_taken (block head_widths (head_limits f) b) n.0 in
      let h : 4 ≤ length b = (block_is head_widths (head_limits f) b t.value t.size t.is).there in
      let d : length (drop 4 b) ≡ length b - 4 = length-drop 4 b in
      omega (arith, ltb-false (length (drop 4 b)) (total f.widths) (not_refused (ltb (length (drop 4 b)) (total f.widths)) n.1))

  -- r is the verdict on its shape
  module _ (r : Verdict) (v : verdict r ≡ shape f b) where
    -- its refusal is the record's
    pub record_refused : (n : Refusal) → r ≡ Err n → some (number n) ≡ refusal_of (record_due f b)
    unfolding unless
    record_refused n e = let s : shape f b ≡ some (number n) = sym v ∙ rw e in sym (record_refusal ∙ rw s)

    module _ (e : r ≡ Ok tt) where
      -- no refusal
      fitting : shape f b ≡ none
      fitting = sym v ∙ rw e

      -- its fields decide
      pub record_by_fields : (t : Verdict) → verdict t ≡ broken (f.limits (fields f.widths (take (length b - 4) (drop 4 b)))) → verdict t ≡ refusal_of (record_due f b)
      unfolding unless
      record_by_fields t h = rw (rest_of 4 b) at h ∙ sym (record_refusal ∙ rw fitting)

      -- the record is wholly there
      pub record_there : 4 + total f.widths ≤ length b
      record_there = shape_size fitting

      -- so is its body, as the code takes it
      pub body_room : total f.widths ≤ length (take (length b - 4) (drop 4 b))
      body_room = rw (rest_of, length-drop) (omega (arith, record_there))
