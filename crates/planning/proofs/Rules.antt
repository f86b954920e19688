-- The rule of a layer in words, for whatever stands in the next: `RuleWords`.
use Prim.Native.Nat.{ℕ, zero, suc, ◌+◌, ◌<◌, ◌≤◌, min}
use mathlib.Core.Path.{◌≡◌, refl, sym, ◌∙◌}
use mathlib.Core.Logic.{◌⊎◌, inl, inr}
use mathlib.Core.Option.{Option, none, some}
use mathlib.Core.List.{List}
use native.Mathlib.Decide.{dec_lt, dec_le}
use native.Mathlib.Omega.{arith}
use lib.ListN.{length, get_or}
use borrow.Author.Tests.{le-leb, lt-leb}
use Rattle.trellis.specs.Table.{charge, offered}
use Rattle.trellis.specs.Pairs.{pair}
use Rattle.model.specs.Job.{Line, Coding, Levels}
use Rattle.model.specs.Step.{Outcome, violates, reaches, outcome_of}
use Rattle.model.specs.Best.{turn, pairs, reached}
use Rattle.model.specs.Table.{mark, bound, layer_words, state_at, word_in}
use Rattle.base.proofs.Builds.{build_at}
use Rattle.planning.specs.Rule.{Allowed, coding_offer, pair_offer, least_offer, layer_from}
use Rattle.planning.specs.Passes.{least_below}
use Rattle.planning.specs.Seeing.{RuleWord, RuleWords}
use Rattle.planning.proofs.Passes.{pairs_least}

-- the least of a sequence: none of its numbers is less, and it is one of them or the mark
below_all : (n : ℕ) (f : ℕ → ℕ) (i : ℕ) → i < n → least_below n f ≤ f i
unfolding least_below
below_all zero f i h = absurd (omega arith)
below_all (suc n) f i h = go (dec_lt i n) (below_all n f i)
  where
    go : Dec (i < n) → (i < n → least_below n f ≤ f i) → min (least_below n f) (f n) ≤ f i
    go (yes k) ih = let l = ih k in omega arith
    go (no k) ih = let e : i ≡ n = omega arith in rw e (omega arith)

one_of : (n : ℕ) (f : ℕ → ℕ) → (least_below n f ≡ mark) ⊎ ((i : ℕ) × (i < n) × (f i ≡ least_below n f))
unfolding least_below
one_of zero f = inl refl
one_of (suc n) f = go (dec_le (f n) (least_below n f)) (one_of n f)
  where
    go : Dec (f n ≤ least_below n f) → (least_below n f ≡ mark) ⊎ ((i : ℕ) × (i < n) × (f i ≡ least_below n f)) → (min (least_below n f) (f n) ≡ mark) ⊎ ((i : ℕ) × (i < suc n) × (f i ≡ min (least_below n f) (f n)))
    go (yes k) h = inr (n, omega arith, omega arith)
    go (no k) (inl e) = inl (omega arith)
    go (no k) (inr (i, l, e)) = inr (i, omega arith, omega arith)

module _ (line : Line) (n : ℕ) (allowed : Allowed) (next : List ℕ) (s : Levels) where
  abbrev offer : ℕ → ℕ → ℕ
  offer y x = pair_offer ◌+◌ line allowed (word_in line next) s (pair y x)

  word : ℕ
  word = least_offer ◌+◌ line n allowed (word_in line next) s

  as_least : word ≡ least_below (length line.rates) (λ y. least_below n (λ x. offer y x))
  unfolding word least_offer pairs turn
  as_least = pairs_least (pair_offer ◌+◌ line allowed (word_in line next) s) (λ i. i) (length line.rates) n

  -- what a rate and a choice offer
  reaching : (y x : ℕ) (k : Coding) (l : Levels) → allowed x ≡ some k → outcome_of line none none s.decoder s.buckets (get_or line.rates y 0) k.size ≡ reaches l → word_in line next l ≤ 512000000 → offer y x ≡ k.distortion + word_in line next l
  unfolding pair_offer coding_offer reached offered charge
  reaching y x k l a o h = rw (a, o, le-leb (word_in line next l) bound h)

  -- a number that is offered and is not the mark
  pub record Offer (y x w : ℕ) : Type 0 where
    pub coding : Coding
    pub levels : Levels
    pub allows : allowed x ≡ some coding
    pub reaches_them : outcome_of line none none s.decoder s.buckets (get_or line.rates y 0) coding.size ≡ reaches levels
    pub small : word_in line next levels ≤ 512000000
    pub sum : w ≡ coding.distortion + word_in line next levels

  offer_is : (y x : ℕ) → (offer y x ≡ mark) ⊎ Offer y x (offer y x)
  unfolding pair_offer coding_offer
  offer_is y x = of_coding (allowed x) refl
    where
      of_word : (k : Coding) (l : Levels) → allowed x ≡ some k → outcome_of line none none s.decoder s.buckets (get_or line.rates y 0) k.size ≡ reaches l → Dec (bound < word_in line next l) → (offered mark bound ◌+◌ k.distortion (some l) (word_in line next) ≡ mark) ⊎ Offer y x (offered mark bound ◌+◌ k.distortion (some l) (word_in line next))
      of_word k l a o (yes h) = inl (unfold offered charge in rw (lt-leb (word_in line next l) bound h))
      of_word k l a o (no h) = unfold offered charge in (rw (le-leb (word_in line next l) bound (omega arith)) (inr (record { coding = k; levels = l; allows = a; reaches_them = o; small = omega arith; sum = refl })))

      of_outcome : (k : Coding) (o : Outcome) → allowed x ≡ some k → outcome_of line none none s.decoder s.buckets (get_or line.rates y 0) k.size ≡ o → (offered mark bound ◌+◌ k.distortion (reached o) (word_in line next) ≡ mark) ⊎ Offer y x (offered mark bound ◌+◌ k.distortion (reached o) (word_in line next))
      of_outcome k (violates v) a o = inl (unfold reached offered in refl)
      of_outcome k (reaches l) a o = unfold reached in (of_word k l a o (dec_lt bound (word_in line next l)))

      of_coding : (c : Option Coding) → allowed x ≡ c → (coding_offer ◌+◌ line (word_in line next) s (get_or line.rates y 0) c ≡ mark) ⊎ Offer y x (coding_offer ◌+◌ line (word_in line next) s (get_or line.rates y 0) c)
      of_coding none a = inl refl
      of_coding (some k) a = of_outcome k _ a refl

  abbrev Attained : Type 0
  Attained = (word ≡ 4294967295) ⊎ ((y : ℕ) × (x : ℕ) × (k : Coding) × (l : Levels) × (y < length line.rates) × (x < n) × (allowed x ≡ some k) × (outcome_of line none none s.decoder s.buckets (get_or line.rates y 0) k.size ≡ reaches l) × (word_in line next l ≤ 512000000) × (word ≡ k.distortion + word_in line next l))

  rule_word : RuleWord line n allowed next s word
  rule_word = record {
    no_less = λ y x k l p q a o h.
        let one = below_all (length line.rates) (λ y. least_below n (λ x. offer y x)) y p in
        let other = below_all n (λ x. offer y x) x q in
        omega (arith, as_least, one, other, reaching y x k l a o h);
    attained = rates (one_of (length line.rates) (λ y. least_below n (λ x. offer y x)));
  }
    where
      offers : (y x : ℕ) → y < length line.rates → x < n → offer y x ≡ word → (offer y x ≡ mark) ⊎ Offer y x (offer y x) → Attained
      offers y x p q e (inl m) = inl (sym e ∙ m)
      offers y x p q e (inr o) = inr (y, x, o.coding, o.levels, p, q, o.allows, o.reaches_them, o.small, sym e ∙ o.sum)

      choices : (y : ℕ) → y < length line.rates → least_below n (λ x. offer y x) ≡ word → (least_below n (λ x. offer y x) ≡ mark) ⊎ ((x : ℕ) × (x < n) × (offer y x ≡ least_below n (λ x. offer y x))) → Attained
      choices y p e (inl m) = inl (sym e ∙ m)
      choices y p e (inr (x, q, o)) = offers y x p q (o ∙ e) (offer_is y x)

      rates : (least_below (length line.rates) (λ y. least_below n (λ x. offer y x)) ≡ mark) ⊎ ((y : ℕ) × (y < length line.rates) × (least_below n (λ x. offer y x) ≡ least_below (length line.rates) (λ y. least_below n (λ x. offer y x)))) → Attained
      rates (inl m) = inl (as_least ∙ m)
      rates (inr (y, p, e)) = choices y p (e ∙ sym as_least) (one_of n (λ x. offer y x))

pub rule_words : RuleWords
unfolding layer_from word
rule_words line n allowed next i h = rw (build_at (layer_words line) (λ i. least_offer ◌+◌ line n allowed (word_in line next) (state_at line i)) i h) (rule_word line n allowed next (state_at line i))
