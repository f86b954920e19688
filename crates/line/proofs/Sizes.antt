-- The sizes of a line's layer, its places and its rates, as the code computes them.
use Prim.Native.Nat.{ℕ, ◌+◌, ◌*◌, ◌≤◌}
use mathlib.Core.Path.{◌≡◌, refl, sym}
use mathlib.Core.List.{[], ◌∷◌, map}
use Rattle.std.specs.Prelude.{Some, None}
use Rattle.std.specs.Prelude as std
use Rattle.std.specs.Option.{option_map, option_to_list}
use Rattle.interval.specs.declared.Buffers.{Buffers}
use Rattle.interval.specs.declared.Policer.{Policer}
use native.Mathlib.Nat.{mul-one, mul-le-mul}
use native.Mathlib.Omega.{arith}
use mir.Syntax.{w64}
use mir.Val.{Fits}
use lib.ListN.{length}
use lib.Seq.{length-take-le}
use Rattle.model.specs.Job.{Bucket}
use Rattle.model.specs.Table.{layer_words, tops, flat, span, place}
use Rattle.interval.specs.declared.Levels.{Levels}
use Rattle.interval.specs.Answers.{levels_of, bucket_is, line_of}
use Rattle.line.specs.declared.Line.{Line}
use Rattle.line.specs.Answers.{line_is, second_sizes, BuffersFit, LineFits}

-- a product of two numbers of 16 bits, added to one of three, and a number more
pub product_fits : (a b : ℕ) → a ≤ 65536 → b ≤ 65536 → Fits w64 (a * b)
product_fits a b h k = let small : a * b ≤ 4294967296 = mul-le-mul {n₂ = 65536} {m₂ = 65536} h k in record { fits = omega arith }

pub sum_fits : (m a b : ℕ) → m ≤ 281474976710656 → a ≤ 65536 → b ≤ 65536 → Fits w64 (m + a * b)
sum_fits m a b l h k = let small : a * b ≤ 4294967296 = mul-le-mul {n₂ = 65536} {m₂ = 65536} h k in record { fits = omega arith }

pub place_fits : (m a b n : ℕ) → m ≤ 281474976710656 → a ≤ 65536 → b ≤ 65536 → n ≤ 65536 → Fits w64 (m + a * b + n)
place_fits m a b n l h k q = let small : a * b ≤ 4294967296 = mul-le-mul {n₂ = 65536} {m₂ = 65536} h k in record { fits = omega arith }

-- the words of some layers
pub layer_product : (a b : ℕ) → a ≤ 577 → b ≤ 4194304 → a * b ≤ 8589934592
layer_product a b h k = let m : a * b ≤ 577 * 4194304 = mul-le-mul {n₂ = 577} {m₂ = 4194304} h k in omega arith

-- three numbers of 16 bits, and one more of few
pub three_small : (a b c : ℕ) → a ≤ 65536 → b ≤ 65536 → c ≤ 65536 → (b * c ≤ 4294967296) × (a * (b * c) ≤ 281474976710656)
three_small a b c h k l =
    let m : b * c ≤ 4294967296 = mul-le-mul {n₂ = 65536} {m₂ = 65536} k l in
    (m, mul-le-mul {n₂ = 65536} {m₂ = 4294967296} h m)

-- how many levels the second bucket has
module _ (k : Buffers) where
  pub two_levels : (b : Policer) → k.second ≡ Some b → b.size + 1 ≡ span (second_sizes k)
  unfolding second_sizes span
  two_levels b e = rw e (sym (mul-one (b.size + 1)))

  pub one_level : k.second ≡ None → 1 ≡ span (second_sizes k)
  unfolding second_sizes span
  one_level e = rw e

  pub each_size : (k.decoder + 1) * ((k.first.size + 1) * span (second_sizes k)) ≡ layer_words (line_of k [])
  unfolding line_of tops span second_sizes
  each_size = go k.second
    where
      go : (o : std.Option Policer) → (k.decoder + 1) * ((k.first.size + 1) * span (option_to_list (option_map (λ b. b.size) o))) ≡ span (k.decoder ∷ k.first.size ∷ map (λ (b : Bucket). b.size) (option_to_list (option_map bucket_is o)))
      go None = refl
      go (Some b) = refl

  pub each_small : BuffersFit k → layer_words (line_of k []) ≤ 4194304
  each_small f =
      let s : span (second_sizes k) ≤ 64 = go k.second refl in
      let r : (k.first.size + 1) * span (second_sizes k) ≤ 16384 = mul-le-mul {n₂ = 256} {m₂ = 64} (omega (arith, f.bucket)) s in
      rw (← each_size) (mul-le-mul {n₂ = 256} {m₂ = 16384} (omega (arith, f.decoder)) r)
    where
      go : (o : std.Option Policer) → k.second ≡ o → span (second_sizes k) ≤ 64
      go (Some b) e = omega (arith, two_levels b e, f.second b e)
      go None e = omega (arith, one_level e)

  -- the place of the second bucket's level
  module _ (p : std.Option ℕ) where
    pub both_place : (b : Policer) (x : ℕ) → k.second ≡ Some b → p ≡ Some x → x ≡ place (second_sizes k) (option_to_list p)
    unfolding second_sizes place span
    both_place b x e f = rw (e, f) (omega arith)

    pub no_level : (b : Policer) → k.second ≡ Some b → p ≡ None → 0 ≡ place (second_sizes k) (option_to_list p)
    unfolding second_sizes place
    no_level b e f = rw (e, f) refl

    pub no_bucket : k.second ≡ None → 0 ≡ place (second_sizes k) (option_to_list p)
    unfolding second_sizes place
    no_bucket e = rw e (go p)
      where
        go : (o : std.Option ℕ) → 0 ≡ place [] (option_to_list o)
        go None = refl
        go (Some x) = refl

module _ (l : Line) where
  pub layer_size : layer_words (line_of l.buffers []) ≡ layer_words (line_is l)
  unfolding line_is line_of tops
  layer_size = refl

  pub layer_small : LineFits l → layer_words (line_is l) ≤ 4194304
  layer_small f = rw (← layer_size) (each_small l.buffers f.buffers)

  pub place_is : (at : Levels) → at.decoder * ((l.buffers.first.size + 1) * span (second_sizes l.buffers)) + at.bucket * span (second_sizes l.buffers) + place (second_sizes l.buffers) (option_to_list at.bucket2) ≡ place (tops (line_is l)) (flat (levels_of at))
  unfolding line_is line_of tops span flat levels_of place second_sizes
  place_is at = go l.buffers.second
    where
      go : (o : std.Option Policer) → at.decoder * ((l.buffers.first.size + 1) * span (option_to_list (option_map (λ b. b.size) o))) + at.bucket * span (option_to_list (option_map (λ b. b.size) o)) + place (option_to_list (option_map (λ b. b.size) o)) (option_to_list at.bucket2) ≡ place (l.buffers.decoder ∷ l.buffers.first.size ∷ map (λ (b : Bucket). b.size) (option_to_list (option_map bucket_is o))) (at.decoder ∷ at.bucket ∷ option_to_list at.bucket2)
      go None = omega arith
      go (Some b) = omega arith

  pub rates_count : LineFits l → length (line_is l).rates ≡ l.count
  unfolding line_is line_of
  rates_count f = length-take-le l.count l.rates (rw f.size f.rates)
