-- Lists taken apart and joined, and the codings in them.
use Prim.Native.Nat.{ℕ, zero, suc, ◌*◌, ◌<◌}
use mathlib.Core.Path.{◌≡◌, refl, sym, ap, ap₂, ◌∙◌}
use mathlib.Core.List.{List, [], ◌∷◌, ◌++◌, map, zip_with}
use native.Mathlib.Omega.{arith}
use native.Mathlib.Nat.{zero-mul, suc-mul}
use lib.ListN.{length, get_or, take, drop, length-append, length-drop, take-append-drop}
use lib.Seq.{length-take-le, take_at, drop_at}
use Rattle.model.specs.Job.{Coding, nothing}
use Rattle.format.specs.Limits.{AllKept}
use Rattle.format.specs.Parser.{Each, no_more, one_more}
use Rattle.format.specs.JobBytes.{coding_limits, UnitKept}
use Rattle.format.proofs.Limits.{all_kept_join, all_kept_part}
use Rattle.writing.specs.Lists.{joined, parted, codings_from}

-- what is taken apart and joined is the same
none_left : {A : Type 0} (l : List A) → length l ≡ 0 → [] ≡ l
none_left [] e = refl
none_left (a ∷ l) e = absurd (omega arith)

pub joined_parted : {A : Type 0} (n m : ℕ) (l : List A) → length l ≡ n * m → joined (parted n m l) ≡ l
unfolding joined parted
joined_parted zero m l e = none_left l (e ∙ zero-mul m)
joined_parted (suc n) m l e =
    let r = joined_parted n m (drop m l) (length-drop m l ∙ omega (arith, suc-mul n m)) in
    ap (λ (k : List _). take m l ++ k) r ∙ take-append-drop m l

pub parted_length : {A : Type 0} (n m : ℕ) (l : List A) → length (parted n m l) ≡ n
unfolding parted
parted_length zero m l = refl
parted_length (suc n) m l = ap suc (parted_length n m (drop m l))

-- what is joined and taken apart is the same, of lists of one length
pub parted_joined : {A : Type 0} (m : ℕ) (ls : List (List A)) → Each (λ l. length l ≡ m) ls → parted (length ls) m (joined ls) ≡ ls
unfolding joined parted
parted_joined m [] no_more = refl
parted_joined m (l ∷ ls) (one_more e t) = ap₂ ◌∷◌ (take_at l (joined ls) m e) (ap (parted (length ls) m) (drop_at l (joined ls) m e) ∙ parted_joined m ls t)

pub joined_length : {A : Type 0} (m : ℕ) (ls : List (List A)) → Each (λ l. length l ≡ m) ls → length (joined ls) ≡ length ls * m
unfolding joined
joined_length m [] no_more = sym (zero-mul m)
joined_length m (l ∷ ls) (one_more e t) = length-append l (joined ls) ∙ omega (arith, joined_length m ls t, suc-mul (length ls) m)

-- the sizes and the distortions of codings from lists, and back
pub sizes_back : (ss ds : List ℕ) → length ss ≡ length ds → map (λ (c : Coding). c.size) (codings_from ss ds) ≡ ss
unfolding codings_from zip_with
sizes_back [] ds e = refl
sizes_back (s ∷ ss) [] e = absurd (omega arith)
sizes_back (s ∷ ss) (d ∷ ds) e = ap (λ (l : List ℕ). s ∷ l) (sizes_back ss ds (omega arith))

pub distortions_back : (ss ds : List ℕ) → length ss ≡ length ds → map (λ (c : Coding). c.distortion) (codings_from ss ds) ≡ ds
unfolding codings_from zip_with
distortions_back [] [] e = refl
distortions_back [] (d ∷ ds) e = absurd (omega arith)
distortions_back (s ∷ ss) [] e = absurd (omega arith)
distortions_back (s ∷ ss) (d ∷ ds) e = ap (λ (l : List ℕ). d ∷ l) (distortions_back ss ds (omega arith))

pub codings_count : (ss ds : List ℕ) → length ss ≡ length ds → length (codings_from ss ds) ≡ length ss
unfolding codings_from zip_with
codings_count [] ds e = refl
codings_count (s ∷ ss) [] e = absurd (omega arith)
codings_count (s ∷ ss) (d ∷ ds) e = ap suc (codings_count ss ds (omega arith))

-- the coding in a place
pub coding_in : (ss ds : List ℕ) (x : ℕ) → x < length ss → length ss ≡ length ds → get_or (codings_from ss ds) x nothing ≡ record { size = get_or ss x 0; distortion = get_or ds x 0 }
unfolding codings_from zip_with
coding_in [] ds x h e = absurd (omega arith)
coding_in (s ∷ ss) [] x h e = absurd (omega arith)
coding_in (s ∷ ss) (d ∷ ds) zero h e = refl
coding_in (s ∷ ss) (d ∷ ds) (suc x) h e = coding_in ss ds x (omega arith) (omega arith)

-- a part of the lists is a part of the codings
pub codings_drop : (n : ℕ) (ss ds : List ℕ) → length ss ≡ length ds → codings_from (drop n ss) (drop n ds) ≡ drop n (codings_from ss ds)
unfolding codings_from zip_with
codings_drop zero ss ds e = refl
codings_drop (suc n) [] [] e = refl
codings_drop (suc n) [] (d ∷ ds) e = absurd (omega arith)
codings_drop (suc n) (s ∷ ss) [] e = absurd (omega arith)
codings_drop (suc n) (s ∷ ss) (d ∷ ds) e = codings_drop n ss ds (omega arith)

pub codings_take : (n : ℕ) (ss ds : List ℕ) → codings_from (take n ss) (take n ds) ≡ take n (codings_from ss ds)
unfolding codings_from zip_with
codings_take zero ss ds = refl
codings_take (suc n) [] ds = refl
codings_take (suc n) (s ∷ ss) [] = refl
codings_take (suc n) (s ∷ ss) (d ∷ ds) = ap (λ (l : List Coding). record { size = s; distortion = d } ∷ l) (codings_take n ss ds)

pub codings_back : (cs : List Coding) → codings_from (map (λ c. c.size) cs) (map (λ c. c.distortion) cs) ≡ cs
unfolding codings_from zip_with
codings_back [] = refl
codings_back (c ∷ cs) = ap (λ (l : List Coding). c ∷ l) (codings_back cs)

-- the limits of lists of codings, joined and taken apart
limits_append : (cs ds : List Coding) → coding_limits (cs ++ ds) ≡ coding_limits cs ++ coding_limits ds
limits_append [] ds = refl
limits_append (c ∷ cs) ds = rw (limits_append cs ds)

pub joined_kept : (m : ℕ) (us : List (List Coding)) → Each (UnitKept m) us → AllKept (coding_limits (joined us))
unfolding joined
joined_kept m [] no_more = tt
joined_kept m (u ∷ us) (one_more k t) = rw (limits_append u (joined us)) (all_kept_join (coding_limits u) (coding_limits (joined us)) k.limits (joined_kept m us t))

pub parted_kept : (n m : ℕ) (cs : List Coding) → length cs ≡ n * m → AllKept (coding_limits cs) → Each (UnitKept m) (parted n m cs)
unfolding parted
parted_kept zero m cs e k = no_more
parted_kept (suc n) m cs e k =
    let z = suc-mul n m in
    let s : coding_limits cs ≡ coding_limits (take m cs) ++ coding_limits (drop m cs) = ap coding_limits (sym (take-append-drop m cs)) ∙ limits_append (take m cs) (drop m cs) in
    let p = all_kept_part (coding_limits (take m cs)) (coding_limits (drop m cs)) (rw s at k) in
    one_more (record { count = length-take-le m cs (omega arith); limits = p.0 }) (parted_kept n m (drop m cs) (length-drop m cs ∙ omega arith) p.1)
