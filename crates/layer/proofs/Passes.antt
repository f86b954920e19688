-- Both passes in a layer's place make the layer: `passes_make`.
use Prim.Native.Nat.{ℕ, ◌≤◌, ◌+◌, ◌-◌, ◌<◌}
use mathlib.Core.Path.{◌≡◌, refl, ◌∙◌, sym, ap}
use mathlib.Core.List.{List, ◌++◌}
use native.Mathlib.Decide.{dec_lt}
use native.Mathlib.Omega.{arith}
use lib.ListN.{length, get_or, take, drop, length-drop, length-append, get_or-append}
use lib.Seq.{take_at, drop_at, get_or-drop, get_or-append-add, ext_get_or}
use Rattle.base.specs.Lists.{build}
use Rattle.model.specs.Job.{Line}
use Rattle.model.specs.Table.{sizes, span, layer_words, state_at, word_in}
use Rattle.base.proofs.Builds.{build_length, build_at}
use Rattle.planning.specs.Rule.{Allowed, layer_from}
use Rattle.planning.specs.Passes.{least_below, arrived, word_if, sent_from, decoded_from, row_offer}
use Rattle.planning.proofs.Passes.{two_passes, decoded_rows}
use Rattle.block.specs.Blocks.{Made}

-- words made anew from the first on, as a list
pub made_all : (n : ℕ) (f : ℕ → ℕ) (old new : List ℕ) → n ≤ length old → Made 0 n f old new → new ≡ build n f ++ drop n old
made_all n f old new h a =
    ext_get_or 0 new (build n f ++ drop n old) (omega (arith, a.size, length-append (build n f) (drop n old), build_length n f, length-drop n old)) (λ i k. go i (dec_lt i n))
  where
    go : (i : ℕ) → Dec (i < n) → get_or new i 0 ≡ get_or (build n f ++ drop n old) i 0
    go i (yes b) = a.here i (omega arith) b ∙ sym (get_or-append (build n f) (drop n old) 0 i (omega (arith, build_length n f)) ∙ build_at n f i b)
    go i (no b) =
        let e : length (build n f) + (i - n) ≡ i = omega (arith, build_length n f) in
        let q : n + (i - n) ≡ i = omega arith in
        a.after i (omega arith)
        ∙ sym (ap (λ (m : ℕ). get_or (build n f ++ drop n old) m 0) (sym e) ∙ get_or-append-add (build n f) (drop n old) (i - n) 0 ∙ get_or-drop n old (i - n) 0 ∙ ap (λ (m : ℕ). get_or old m 0) q)

-- both passes, in the layer's place: the first leaves the levels between, the second the layer
pub passes_make : (◌⊕◌ : ℕ → ℕ → ℕ) (line : Line) (n : ℕ) (allowed : Allowed) (part mid new : List ℕ) (width size : ℕ) → width ≡ span (sizes line) → size ≡ layer_words line → layer_words line ≤ length part → Made 0 size (λ i. least_below n (λ x. row_offer ◌⊕◌ width (take size (drop size part)) i (allowed x))) part mid → Made 0 (layer_words line) (λ i. least_below (length line.rates) (λ y. word_if (word_in line (take (layer_words line) mid)) (arrived line (state_at line i) (get_or line.rates y 0)))) mid new → new ≡ layer_from ◌⊕◌ line n allowed (take (layer_words line) (drop (layer_words line) part)) ++ drop (layer_words line) part
unfolding sent_from
passes_make ◌⊕◌ line n allowed part mid new width size p q h a b =
    let L : ℕ = layer_words line in
    let next : List ℕ = take L (drop L part) in
    let first : mid ≡ decoded_from ◌⊕◌ line n allowed next ++ drop L part = made_all L _ part mid h (rw (p, q) at a) ∙ rw (decoded_rows ◌⊕◌ line n allowed next) in
    let long : length (decoded_from ◌⊕◌ line n allowed next) ≡ L = rw (decoded_rows ◌⊕◌ line n allowed next) (build_length L (λ i. least_below n (λ x. row_offer ◌⊕◌ (span (sizes line)) next i (allowed x)))) in
    let start : take L mid ≡ decoded_from ◌⊕◌ line n allowed next = rw first (take_at (decoded_from ◌⊕◌ line n allowed next) (drop L part) L long) in
    let rest : drop L mid ≡ drop L part = rw first (drop_at (decoded_from ◌⊕◌ line n allowed next) (drop L part) L long) in
    made_all L _ mid new (omega (arith, a.size)) b ∙ rw (start, rest, ← two_passes ◌⊕◌ line n allowed next) refl
