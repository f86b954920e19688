-- A reading and a writing that undo each other, and how such pairs are put together: records of any form, one after another, many times.
use Prim.Native.Nat.{ℕ, zero, suc, ◌+◌, ◌-◌, ◌≤◌}
use mathlib.Core.Path.{◌≡◌, refl, sym, ap, ap₂, ◌∙◌}
use mathlib.Core.List.{List, [], ◌∷◌, ◌++◌, append_assoc}
use native.Mathlib.Omega.{arith}
use native.Mathlib.Nat.{add-zero}
use lib.ListN.{length, take, drop, length-append, length-drop}
use lib.Seq.{drop_at, take-add, drop-append_seam}
use Rattle.format.specs.Fields.{total, fields, spelled, Fit, Bytes}
use Rattle.format.specs.Limits.{Limit, AllKept}
use Rattle.format.specs.Parser.{Result, took, Parser, done, ◌>>=◌, many, all_bytes, Each}
use Rattle.format.specs.Parser as P
use Rattle.format.specs.Records.{Form, block, head_widths, head_values, head_limits, record_due, record_bytes}
use Rattle.format.proofs.Limits.{none_broken}
use Rattle.format.proofs.Records.{block_took}
use Rattle.format.proofs.Parsing.{record_is, bound, bind_took, many_is, done_is}
use Rattle.format.proofs.Spelling.{spelled_length, fields_spelled, spelled_fields, fit_fields, bytes_drop}

-- what was read is good, and the bytes that it took are those written of it
pub record Back {A : Type 0} (Good : A → Type 0) (write : A → List ℕ) (b : List ℕ) (a : A) (n : ℕ) : Type 0 where
  pub size : n ≤ length b
  pub same : take n b ≡ write a
  pub good : Good a

pub record Exact {A : Type 0} (read : Parser A) (Good : A → Type 0) (write : A → List ℕ) : Type 0 where
  pub forth : (a : A) → Good a → (rest : List ℕ) → read (write a ++ rest) ≡ took a (length (write a))
  pub back : (b : List ℕ) → Bytes b → (a : A) (n : ℕ) → read b ≡ took a n → Back Good write b a n

-- one block
block_forth : (ws : List ℕ) (limits : List ℕ → List Limit) (vs rest : List ℕ) → Fit ws vs → AllKept (limits vs) → block ws limits (spelled ws vs ++ rest) ≡ took vs (total ws)
block_forth ws limits vs rest t k =
    let l : length (spelled ws vs ++ rest) ≡ total ws + length rest = length-append (spelled ws vs) rest ∙ rw (spelled_length t) in
    let e : fields ws (spelled ws vs ++ rest) ≡ vs = fields_spelled t rest in
    block_took ws limits (spelled ws vs ++ rest) (omega arith) (rw e (none_broken (limits vs) k)) ∙ rw e

-- a record: its values fit their fields and keep their limits
pub record RecordGood (f : Form) (vs : List ℕ) : Type 0 where
  pub fit : Fit f.widths vs
  pub kept : AllKept (f.limits vs)

head_kept : (f : Form) → AllKept (head_limits f (head_values f))
unfolding head_limits head_values
head_kept f = omega arith

pub record_length : (f : Form) (vs : List ℕ) → Fit head_widths (head_values f) → Fit f.widths vs → length (record_bytes f vs) ≡ 4 + total f.widths
unfolding record_bytes total
record_length f vs h t = length-append (spelled head_widths (head_values f)) (spelled f.widths vs) ∙ ap₂ ◌+◌ (spelled_length h) (spelled_length t)

bytes_are : (f : Form) (vs : List ℕ) → spelled head_widths (head_values f) ++ spelled f.widths vs ≡ record_bytes f vs
unfolding record_bytes
bytes_are f vs = refl

due_took : (f : Form) (b hd vs : List ℕ) (k m : ℕ) → block head_widths (head_limits f) b ≡ took hd k → block f.widths f.limits (drop k b) ≡ took vs m → record_due f b ≡ took vs (k + m)
unfolding record_due
due_took f b hd vs k m p q = bind_took (block head_widths (head_limits f)) (λ h. block f.widths f.limits) b hd k vs m p q

pub exact_record : (f : Form) → Fit head_widths (head_values f) → Exact (record_due f) (RecordGood f) (record_bytes f)
exact_record f h = record { forth = forth; back = back }
  where
    forth : (vs : List ℕ) → RecordGood f vs → (rest : List ℕ) → record_due f (record_bytes f vs ++ rest) ≡ took vs (length (record_bytes f vs))
    forth vs g rest =
        let a : record_bytes f vs ++ rest ≡ spelled head_widths (head_values f) ++ (spelled f.widths vs ++ rest) = unfold record_bytes in (append_assoc (spelled head_widths (head_values f)) (spelled f.widths vs) rest) in
        let d : drop 4 (spelled head_widths (head_values f) ++ (spelled f.widths vs ++ rest)) ≡ spelled f.widths vs ++ rest = drop_at (spelled head_widths (head_values f)) (spelled f.widths vs ++ rest) 4 (unfold total in (spelled_length h)) in
        let p : block head_widths (head_limits f) (spelled head_widths (head_values f) ++ (spelled f.widths vs ++ rest)) ≡ took (head_values f) 4 = unfold total in (block_forth head_widths (head_limits f) (head_values f) (spelled f.widths vs ++ rest) h (head_kept f)) in
        let q : block f.widths f.limits (drop 4 (spelled head_widths (head_values f) ++ (spelled f.widths vs ++ rest))) ≡ took vs (total f.widths) = rw d (block_forth f.widths f.limits vs rest g.fit g.kept) in
        rw (a, record_length f vs h g.fit) (due_took f (spelled head_widths (head_values f) ++ (spelled f.widths vs ++ rest)) (head_values f) vs 4 (total f.widths) p q)

    back : (b : List ℕ) → Bytes b → (vs : List ℕ) (n : ℕ) → record_due f b ≡ took vs n → Back (RecordGood f) (record_bytes f) b vs n
    back b B vs n e =
        let t = record_is f b vs n e in
        let l : total f.widths ≤ length (drop 4 b) = rw length-drop (omega (arith, t.there)) in
        let hs : spelled head_widths (fields head_widths b) ≡ take 4 b = unfold total in (spelled_fields head_widths b B (omega (arith, t.there))) in
        let hd : take 4 b ≡ spelled head_widths (head_values f) = sym hs ∙ ap (spelled head_widths) t.head in
        let bd : take (total f.widths) (drop 4 b) ≡ spelled f.widths vs = sym (spelled_fields f.widths (drop 4 b) (bytes_drop 4 b B) l) ∙ ap (spelled f.widths) (sym t.values) in
        record {
          size = omega (arith, t.there, t.size);
          same = ap (λ (k : ℕ). take k b) t.size ∙ take-add 4 (total f.widths) b ∙ ap₂ ◌++◌ hd bd ∙ bytes_are f vs;
          good = record { fit = rw t.values (fit_fields f.widths (drop 4 b) (bytes_drop 4 b B) l); kept = t.kept };
        }

-- a reading whose value goes through a function that can be undone
module _ {A C : Type 0} {read : Parser A} {Good : A → Type 0} {write : A → List ℕ} (x : Exact read Good write) (g : A → C) (k : C → A) (Fine : C → Type 0) where
  pub exact_map : ((c : C) → Fine c → Good (k c) × (g (k c) ≡ c)) → ((a : A) → Good a → Fine (g a) × (k (g a) ≡ a)) → Exact (read >>= λ a. done (g a)) Fine (λ c. write (k c))
  exact_map p q = record { forth = forth; back = back }
    where
      forth : (c : C) → Fine c → (rest : List ℕ) → (read >>= λ a. done (g a)) (write (k c) ++ rest) ≡ took c (length (write (k c)))
      forth c h rest =
          bind_took read (λ a. done (g a)) (write (k c) ++ rest) (k c) (length (write (k c))) (g (k c)) 0 (x.forth (k c) (p c h).0 rest) (unfold done in refl)
          ∙ rw (add-zero, (p c h).1)

      back : (b : List ℕ) → Bytes b → (c : C) (n : ℕ) → (read >>= λ a. done (g a)) b ≡ took c n → Back Fine (λ c. write (k c)) b c n
      back b B c n e =
          let h = bound read (λ a. done (g a)) b c n e in
          let z = done_is (g h.value) (drop h.size b) c h.more h.second in
          let r = x.back b B h.value h.size h.first in
          let s : n ≡ h.size = omega (arith, h.sizes, z.1) in
          let f = q h.value r.good in
          record {
            size = omega (arith, r.size);
            same = ap (λ (i : ℕ). take i b) s ∙ r.same ∙ ap write (sym f.1) ∙ ap (λ (d : C). write (k d)) (sym z.0);
            good = rw z.0 f.0;
          }

-- one reading after another; the last value tells the first
module _ {A C : Type 0} {read : Parser A} {Good : A → Type 0} {write : A → List ℕ} (x : Exact read Good write) (first : C → A) (next : A → Parser C) (Fine : A → C → Type 0) (write_next : A → C → List ℕ) where
  pub exact_then : ((a : A) → Good a → Exact (next a) (Fine a) (write_next a)) → ((a : A) (c : C) → Fine a c → first c ≡ a) → Exact (read >>= next) (λ c. Good (first c) × Fine (first c) c) (λ c. write (first c) ++ write_next (first c) c)
  exact_then y told = record { forth = forth; back = back }
    where
      forth : (c : C) → Good (first c) × Fine (first c) c → (rest : List ℕ) → (read >>= next) ((write (first c) ++ write_next (first c) c) ++ rest) ≡ took c (length (write (first c) ++ write_next (first c) c))
      forth c h rest =
          let d : drop (length (write (first c))) (write (first c) ++ (write_next (first c) c ++ rest)) ≡ write_next (first c) c ++ rest = drop-append_seam (write (first c)) (write_next (first c) c ++ rest) in
          rw (append_assoc, length-append)
          (bind_took read next (write (first c) ++ (write_next (first c) c ++ rest)) (first c) (length (write (first c))) c (length (write_next (first c) c))
          (x.forth (first c) h.0 (write_next (first c) c ++ rest))
          (rw d ((y (first c) h.0).forth c h.1 rest)))

      -- the parts, of a first value that is the one told
      joined : (b : List ℕ) (a : A) (c : C) (i m n : ℕ) → Back Good write b a i → Back (Fine a) (write_next a) (drop i b) c m → n ≡ i + m → Back (λ c. Good (first c) × Fine (first c) c) (λ c. write (first c) ++ write_next (first c) c) b c n
      joined b a c i m n r s e =
          let t : first c ≡ a = told a c s.good in
          let l : length (drop i b) ≡ length b - i = length-drop i b in
          record {
            size = omega (arith, r.size, s.size);
            same = rw (t, e) (take-add i m b ∙ ap₂ ◌++◌ r.same s.same);
            good = rw t (r.good, s.good);
          }

      back : (b : List ℕ) → Bytes b → (c : C) (n : ℕ) → (read >>= next) b ≡ took c n → Back (λ c. Good (first c) × Fine (first c) c) (λ c. write (first c) ++ write_next (first c) c) b c n
      back b B c n e =
          let h = bound read next b c n e in
          let r = x.back b B h.value h.size h.first in
          let s = (y h.value r.good).back (drop h.size b) (bytes_drop h.size b B) c h.more h.second in
          joined b h.value c h.size h.more n r s h.sizes

-- the same reading, many times
module _ {A : Type 0} {read : Parser A} {Good : A → Type 0} {write : A → List ℕ} (x : Exact read Good write) where
  many_forth : (xs : List A) → Each Good xs → (rest : List ℕ) → many (length xs) read (all_bytes write xs ++ rest) ≡ took xs (length (all_bytes write xs))
  unfolding many all_bytes done
  many_forth [] P.no_more rest = refl
  many_forth (a ∷ xs) (P.one_more g gs) rest =
      let d : drop (length (write a)) (write a ++ (all_bytes write xs ++ rest)) ≡ all_bytes write xs ++ rest = drop-append_seam (write a) (all_bytes write xs ++ rest) in
      rw (append_assoc, length-append)
      (bind_took read _ (write a ++ (all_bytes write xs ++ rest)) a (length (write a)) (a ∷ xs) (length (all_bytes write xs))
      (x.forth a g (all_bytes write xs ++ rest))
      (rw d (bind_took (many (length xs) read) _ (all_bytes write xs ++ rest) xs (length (all_bytes write xs)) (a ∷ xs) 0 (many_forth xs gs rest) refl ∙ rw add-zero)))

  -- a first value, then the others
  more : (n : ℕ) (b : List ℕ) (a : A) (xs ys : List A) (i k m : ℕ) → Back Good write b a i → Back (λ zs. (length zs ≡ n) × Each Good zs) (all_bytes write) (drop i b) xs k → ys ≡ a ∷ xs → m ≡ i + k → Back (λ zs. (length zs ≡ suc n) × Each Good zs) (all_bytes write) b ys m
  unfolding all_bytes
  more n b a xs ys i k m r s p q =
      let l : length (drop i b) ≡ length b - i = length-drop i b in
      record {
        size = omega (arith, r.size, s.size);
        same = rw (p, q) (take-add i k b ∙ ap₂ ◌++◌ r.same s.same);
        good = rw p (ap suc s.good.0, P.one_more r.good s.good.1);
      }

  many_back : (n : ℕ) (b : List ℕ) → Bytes b → (xs : List A) (m : ℕ) → many n read b ≡ took xs m → Back (λ zs. (length zs ≡ n) × Each Good zs) (all_bytes write) b xs m
  unfolding many done all_bytes
  many_back zero b B xs m e =
      let d : ◌≡◌ {A = Result (List A)} (took [] 0) (took xs m) = e in
      let z : m ≡ 0 = cc in
      let l : xs ≡ [] = cc in
      record { size = omega arith; same = rw (z, l); good = rw l (refl, P.no_more) }
  many_back (suc n) b B xs m e =
      let t = many_is read n b xs m e in
      more n b t.value t.values xs t.size t.sizes m
      (x.back b B t.value t.size t.first)
      (many_back n (drop t.size b) (bytes_drop t.size b B) t.values t.sizes t.others)
      t.list t.total_size

  pub exact_many : (n : ℕ) → Exact (many n read) (λ zs. (length zs ≡ n) × Each Good zs) (all_bytes write)
  exact_many n = record {
    forth = λ xs g rest. ap (λ (i : ℕ). many i read (all_bytes write xs ++ rest)) (sym g.0) ∙ many_forth xs g.1 rest;
    back = λ b B xs m e. many_back n b B xs m e;
  }

-- the same pair, with what is good said in another way
pub exact_same : {A : Type 0} {read : Parser A} {Good : A → Type 0} {write : A → List ℕ} (Fine : A → Type 0) → Exact read Good write → ((a : A) → Fine a → Good a) → ((a : A) → Good a → Fine a) → Exact read Fine write
exact_same Fine x p q = record {
  forth = λ a f rest. x.forth a (p a f) rest;
  back = λ b B a n e. let r = x.back b B a n e in record { size = r.size; same = r.same; good = q a r.good };
}

-- the same pair, with what is written said in another way
pub exact_written : {A : Type 0} {read : Parser A} {Good : A → Type 0} {write : A → List ℕ} → Exact read Good write → (other : A → List ℕ) → ((a : A) → Good a → write a ≡ other a) → Exact read Good other
exact_written x other w = record {
  forth = λ a g rest. rw (← w a g) (x.forth a g rest);
  back = λ b B a n e. let r = x.back b B a n e in record { size = r.size; same = r.same ∙ w a r.good; good = r.good };
}
