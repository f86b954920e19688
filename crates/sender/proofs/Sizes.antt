-- The sizes of a line's layer, its places and its rates, as the code computes them.
use Prim.Native.Nat.{ℕ, zero, suc, ◌+◌, ◌-◌, ◌*◌, ◌<◌, ◌≤◌}
use mathlib.Core.Path.{◌≡◌, refl, sym, ◌∙◌, ap}
use mathlib.Core.List.{[], ◌∷◌}
use native.Mathlib.Nat.{mul-one, add-mul, mul-le-mul}
use native.Mathlib.Omega.{arith}
use lib.ListN.{length}
use lib.Seq.{length-take-le}
use Rattle.model.specs.Job as model
use Rattle.model.specs.Admissible.{AllWithin}
use Rattle.model.specs.Table.{InLayer, layer_words, sizes, tops, flat, span, place, state_at}
use Rattle.model.proofs.Places.{state_place}
use Rattle.sender.specs.declared.Line.{Line}
use Rattle.sender.specs.Answers.{bucket_is, line_is, LineFits}

-- products of numbers of 16 bits fit
pub product_fits : (a b : ℕ) → a ≤ 65536 → b ≤ 4294967296 → a * b ≤ 281474976710656
product_fits a b h k = mul-le-mul {n₂ = 65536} {m₂ = 4294967296} h k

pub square_fits : (a b : ℕ) → a ≤ 65536 → b ≤ 65536 → a * b ≤ 4294967296
square_fits a b h k = mul-le-mul {n₂ = 65536} {m₂ = 65536} h k

module _ (l : Line) where
  pub row_size : (l.outer.size + 1) * (l.inner.size + 1) ≡ span (sizes (line_is l))
  unfolding line_is bucket_is span
  row_size = rw (mul-one (l.inner.size + 1))

  pub row_small : LineFits l → span (sizes (line_is l)) ≤ 65536
  row_small f = rw (← row_size) (mul-le-mul {n₂ = 256} {m₂ = 256} (omega (arith, f.outer)) (omega (arith, f.inner)))

  pub layer_size : (l.decoder + 1) * span (sizes (line_is l)) ≡ layer_words (line_is l)
  unfolding line_is tops span
  layer_size = refl

  -- the rows from a decoder level on end with the layer
  pub rows_end : (width level : ℕ) → width ≡ span (sizes (line_is l)) → level ≤ l.decoder + 1 → level * width + (l.decoder + 1 - level) * ((l.outer.size + 1) * (l.inner.size + 1)) ≡ layer_words (line_is l)
  rows_end width level p h =
      let e : level + (l.decoder + 1 - level) ≡ l.decoder + 1 = omega arith in
      rw (row_size, p) (sym (add-mul level (l.decoder + 1 - level) (span (sizes (line_is l)))) ∙ ap (λ (n : ℕ). n * span (sizes (line_is l))) e ∙ layer_size)

  pub layer_small : LineFits l → layer_words (line_is l) ≤ 16777216
  layer_small f = rw (← layer_size) (mul-le-mul {n₂ = 256} {m₂ = 65536} (omega (arith, f.decoder)) (row_small f))

  abbrev pub levels : ℕ → ℕ → ℕ → model.Levels
  levels b k j = record { decoder = b; buckets = k ∷ j ∷ [] }

  pub place_is : (b k j : ℕ) → b * span (sizes (line_is l)) + (k * (l.inner.size + 1) + j) ≡ place (tops (line_is l)) (flat (levels b k j))
  unfolding line_is bucket_is tops span flat place
  place_is b k j = rw (mul-one (l.inner.size + 1), mul-one j) (omega arith)

  pub inside : (b k j : ℕ) → b ≤ l.decoder → k < l.outer.size + 1 → j < l.inner.size + 1 → InLayer (line_is l) (levels b k j)
  unfolding line_is bucket_is
  inside b k j p q r =
      record { decoder = p; count = refl; buckets = each }
    where
      each : AllWithin (bucket_is l.outer ∷ bucket_is l.inner ∷ []) (k ∷ j ∷ [])
      each zero h = omega arith
      each (suc zero) h = omega arith
      each (suc (suc i)) h = absurd (omega arith)

  -- the levels at a place
  pub state_at_lem : (b k j : ℕ) → b ≤ l.decoder → k < l.outer.size + 1 → j < l.inner.size + 1 → state_at (line_is l) (b * span (sizes (line_is l)) + (k * (l.inner.size + 1) + j)) ≡ levels b k j
  state_at_lem b k j p q r = ap (state_at (line_is l)) (place_is b k j) ∙ state_place (line_is l) (inside b k j p q r)

  pub rates_count : LineFits l → length (line_is l).rates ≡ l.count
  unfolding line_is
  rates_count f = length-take-le l.count l.rates (rw f.size f.rates)
