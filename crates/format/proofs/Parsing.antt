-- Laws of readings: what one that came to its end says of its parts, over any reading and any form of record.
use Prim.Native.Nat.{ℕ, zero, suc, ◌+◌, ◌-◌, ◌≤◌}
use mathlib.Core.Path.{◌≡◌, refl, sym, ap, ◌∙◌}
use mathlib.Core.Bool.{Bool, true, false}
use mathlib.Core.Option.{Option, none, some}
use mathlib.Core.List.{List, [], ◌∷◌, ◌++◌}
use native.Mathlib.Omega.{arith}
use borrow.Author.Tests.{ltb-false}
use lib.Dec.{ltb}
use lib.ListN.{length, take, drop, length-drop}
use Rattle.std.specs.Prelude.{if◌then◌else◌}
use Rattle.base.specs.Refusals.{Test, refusal, unless, first, guarded, Condition}
use Rattle.base.proofs.Refusals.{not_none, refusal_join, Decides, AllHold, in_order}
use Rattle.format.specs.Fields.{number, total, fields}
use Rattle.format.specs.Limits.{Limit, broken, AllKept}
use Rattle.format.specs.Parser.{Result, refused, took, Parser, done, further, onward, ◌>>=◌, unless_refused, many, refusal_of, on_read, refusal_in, Looks}
use Rattle.format.specs.Records.{Form, block, head_widths, head_values, head_limits, record_due}
use Rattle.format.proofs.Limits.{not_some, all_kept}

pub not_took : {A B : Type 0} {n : ℕ} {a : A} {k : ℕ} → refused n ≡ took a k → B
not_took e = let z : ◌≡◌ {A = ℕ} 0 1 = cc in absurd (omega arith)

pub record Took {A : Type 0} (r : Result A) : Type 0 where
  pub value : A
  pub size : ℕ
  pub is : r ≡ took value size

pub has_taken : {A : Type 0} (r : Result A) → refusal_of r ≡ none → Took r
unfolding refusal_of
has_taken (refused n) e = not_some e
has_taken (took a k) e = record { value = a; size = k; is = refl }

pub has_refused : {A : Type 0} (r : Result A) (n : ℕ) → refusal_of r ≡ some n → r ≡ refused n
unfolding refusal_of
has_refused (refused m) n e = cc
has_refused (took a k) n e = not_some (sym e)

-- a call that reads first and then tests what it read
pub looks_read : {A R : Type 0} (refuse : ℕ → R) (reading : Result A) (tests : A → List Test) (conditions : A → List Condition) (work : A → R) (Else : A → R → Type 0) → ((a : A) (k : ℕ) → reading ≡ took a k → Decides (tests a) (conditions a) × (AllHold (conditions a) → Else a (work a))) → Looks (on_read refuse reading (λ a. guarded refuse (tests a) (work a))) refuse reading conditions (λ a. Else a (on_read refuse reading (λ a. guarded refuse (tests a) (work a))))
unfolding on_read
looks_read refuse reading tests conditions work Else f =
    (λ n e. rw e, λ a k e. let h = f a k e in in_order refuse h.0 (Else a) (work a) (on_read refuse reading (λ a. guarded refuse (tests a) (work a))) (rw e) h.1)

-- a refusal that was found before the work
pub read_refusal : {A R : Type 0} (refuse : ℕ → R) (reading : Result A) (tests : A → List Test) (work : R) → unless refuse (refusal_in reading tests) work ≡ on_read refuse reading (λ a. guarded refuse (tests a) work)
unfolding refusal_in on_read unless guarded
read_refusal refuse (refused n) tests work = refl
read_refusal refuse (took a k) tests work = refl

-- what was read passed every test
pub record Passed {A : Type 0} (reading : Result A) (tests : A → List Test) : Type 0 where
  pub value : A
  pub size : ℕ
  pub is : reading ≡ took value size
  pub none_refuses : refusal (tests value) ≡ none

pub passed : {A : Type 0} (reading : Result A) (tests : A → List Test) → refusal_in reading tests ≡ none → Passed reading tests
unfolding refusal_in
passed (refused n) tests e = absurd (not_none e)
passed (took a k) tests e = record { value = a; size = k; is = refl; none_refuses = e }

-- tests behind those that were looked at
pub refusal_in_join : {A : Type 0} (reading : Result A) (tests : A → List Test) (more : List Test) → first (refusal_in reading tests) (refusal more) ≡ refusal_in reading (λ a. tests a ++ more)
unfolding refusal_in unless
refusal_in_join (refused n) tests more = refl
refusal_in_join (took a k) tests more = sym (refusal_join (tests a) more)

-- one reading after another
module _ {A B : Type 0} (p : Parser A) (f : A → Parser B) (b : List ℕ) where
  pub bind_refused : (n : ℕ) → p b ≡ refused n → (p >>= f) b ≡ refused n
  unfolding ◌>>=◌ onward
  bind_refused n e = rw e

  pub bind_on : (a : A) (k : ℕ) → p b ≡ took a k → (p >>= f) b ≡ further k (f a (drop k b))
  unfolding ◌>>=◌ onward
  bind_on a k e = rw e

  pub bind_took : (a : A) (k : ℕ) (c : B) (m : ℕ) → p b ≡ took a k → f a (drop k b) ≡ took c m → (p >>= f) b ≡ took c (k + m)
  unfolding further
  bind_took a k c m e g = bind_on a k e ∙ rw g

  pub bind_later : (a : A) (k n : ℕ) → p b ≡ took a k → f a (drop k b) ≡ refused n → (p >>= f) b ≡ refused n
  unfolding further
  bind_later a k n e g = bind_on a k e ∙ rw g

  pub record Bound (c : B) (n : ℕ) : Type 0 where
    pub value : A
    pub size : ℕ
    pub more : ℕ
    pub first : p b ≡ took value size
    pub second : f value (drop size b) ≡ took c more
    pub sizes : n ≡ size + more

  bound_second : (a : A) (k : ℕ) (c : B) (n : ℕ) → p b ≡ took a k → (r : Result B) → f a (drop k b) ≡ r → further k r ≡ took c n → Bound c n
  unfolding further
  bound_second a k c n e (refused m) g h = not_took h
  bound_second a k c n e (took d m) g h = record { value = a; size = k; more = m; first = e; second = g ∙ cc; sizes = cc }

  bound_first : (c : B) (n : ℕ) (r : Result A) → p b ≡ r → onward r f b ≡ took c n → Bound c n
  unfolding onward
  bound_first c n (refused m) e h = not_took h
  bound_first c n (took a k) e h = bound_second a k c n e (f a (drop k b)) refl h

  pub bound : (c : B) (n : ℕ) → (p >>= f) b ≡ took c n → Bound c n
  unfolding ◌>>=◌
  bound c n h = bound_first c n (p b) refl h

-- a value that nothing was read for
pub done_is : {A : Type 0} (a : A) (b : List ℕ) (x : A) (n : ℕ) → done a b ≡ took x n → (x ≡ a) × (n ≡ 0)
unfolding done
done_is a b x n e = (cc, cc)

-- a block
pub record BlockTook (ws : List ℕ) (limits : List ℕ → List Limit) (b vs : List ℕ) (n : ℕ) : Type 0 where
  pub there : total ws ≤ length b
  pub values : vs ≡ fields ws b
  pub size : n ≡ total ws
  pub kept : AllKept (limits vs)

pub block_is : (ws : List ℕ) (limits : List ℕ → List Limit) (b vs : List ℕ) (n : ℕ) → block ws limits b ≡ took vs n → BlockTook ws limits b vs n
unfolding block unless_refused
block_is ws limits b vs n = go (ltb (length b) (total ws)) refl (broken (limits (fields ws b))) refl
  where
    go : (t : Bool) → ltb (length b) (total ws) ≡ t → (o : Option ℕ) → broken (limits (fields ws b)) ≡ o → (if t then refused 1 else unless_refused o (took (fields ws b) (total ws))) ≡ took vs n → BlockTook ws limits b vs n
    go true t o q e = not_took e
    go false t (some m) q e = not_took e
    go false t none q e =
        let e' : ◌≡◌ {A = Result (List ℕ)} (took (fields ws b) (total ws)) (took vs n) = e in
        let v : vs ≡ fields ws b = cc in
        record { there = ltb-false (length b) (total ws) t; values = v; size = cc; kept = rw v (all_kept (limits (fields ws b)) q) }

-- a record
pub record RecordTook (f : Form) (b vs : List ℕ) (n : ℕ) : Type 0 where
  pub there : 4 + total f.widths ≤ length b
  pub head : fields head_widths b ≡ head_values f
  pub values : vs ≡ fields f.widths (drop 4 b)
  pub size : n ≡ 4 + total f.widths
  pub kept : AllKept (f.limits vs)

two_values : (f : Form) (x y : ℕ) → AllKept (head_limits f (x ∷ y ∷ [])) → x ∷ y ∷ [] ≡ head_values f
unfolding head_limits head_values
two_values f x y o =
    let p : x ≡ 2 + total f.widths = omega arith in
    let q : y ≡ f.kind = omega arith in
    cc

pub record_is : (f : Form) (b vs : List ℕ) (n : ℕ) → record_due f b ≡ took vs n → RecordTook f b vs n
unfolding record_due
record_is f b vs n e =
    let h = bound (block head_widths (head_limits f)) (λ hd. block f.widths f.limits) b vs n e in
    let p = block_is head_widths (head_limits f) b h.value h.size h.first in
    let q = block_is f.widths f.limits (drop h.size b) vs h.more h.second in
    let four : h.size ≡ 4 = p.size ∙ unfold total in refl in
    let d : drop h.size b ≡ drop 4 b = ap (λ (k : ℕ). drop k b) four in
    let l : length (drop h.size b) ≡ length b - 4 = ap length d ∙ length-drop 4 b in
    let t : 4 ≤ length b = unfold total in p.there in
    record {
      there = omega (arith, q.there);
      head = unfold fields in (two_values f (number (take 2 b)) (number (take 2 (drop 2 b))) (unfold fields in (rw p.values at p.kept)));
      values = q.values ∙ ap (fields f.widths) d;
      size = omega (arith, h.sizes, q.size);
      kept = q.kept;
    }

pub record_took : (f : Form) (b : List ℕ) → refusal_of (record_due f b) ≡ none → record_due f b ≡ took (fields f.widths (drop 4 b)) (4 + total f.widths)
record_took f b e =
    let t = has_taken (record_due f b) e in
    let r = record_is f b t.value t.size t.is in
    t.is ∙ rw (r.values, r.size)

pub fields_length : (ws b : List ℕ) → length (fields ws b) ≡ length ws
unfolding fields
fields_length [] b = refl
fields_length (w ∷ ws) b = ap suc (fields_length ws (drop w b))

-- the same reading, many times
module _ {A : Type 0} (p : Parser A) where
  pub many_refused : (n : ℕ) (b : List ℕ) (k : ℕ) → p b ≡ refused k → many (suc n) p b ≡ refused k
  unfolding many
  many_refused n b k e = bind_refused p _ b k e

  -- the list that n + 1 readings give, from the first and the rest
  pub record ManyTook (n : ℕ) (b : List ℕ) (xs : List A) (m : ℕ) : Type 0 where
    pub value : A
    pub size : ℕ
    pub values : List A
    pub sizes : ℕ
    pub first : p b ≡ took value size
    pub others : many n p (drop size b) ≡ took values sizes
    pub list : xs ≡ value ∷ values
    pub total_size : m ≡ size + sizes

  pub many_is : (n : ℕ) (b : List ℕ) (xs : List A) (m : ℕ) → many (suc n) p b ≡ took xs m → ManyTook n b xs m
  unfolding many done
  many_is n b xs m e =
      let h = bound p _ b xs m e in
      let g = bound (many n p) _ (drop h.size b) xs h.more h.second in
      let d : ◌≡◌ {A = Result (List A)} (took (h.value ∷ g.value) 0) (took xs g.more) = g.second in
      let z : g.more ≡ 0 = cc in
      let l : xs ≡ h.value ∷ g.value = cc in
      record { value = h.value; size = h.size; values = g.value; sizes = g.size; first = h.first; others = g.first; list = l; total_size = omega (arith, h.sizes, g.sizes) }

  pub many_length : (n : ℕ) (b : List ℕ) (xs : List A) (m : ℕ) → many n p b ≡ took xs m → length xs ≡ n
  unfolding many done
  many_length zero b xs m e = let d : ◌≡◌ {A = Result (List A)} (took [] 0) (took xs m) = e in let l : xs ≡ [] = cc in rw l
  many_length (suc n) b xs m e =
      let h = many_is n b xs m e in
      rw h.list (ap suc (many_length n (drop h.size b) h.values h.sizes h.others))
