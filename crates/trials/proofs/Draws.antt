-- The stream of draws: how states follow one another, and what the numbers drawn keep to.
use Prim.Native.Nat.{ℕ, zero, suc, ◌+◌, ◌*◌, ◌/◌, ◌%◌, ◌<◌, ◌≤◌}
use mathlib.Core.Path.{◌≡◌, refl, ap, ◌∙◌}
use native.Mathlib.Omega.{arith}
use Rattle.trials.specs.Draws.{next, after, draw, rate_drawn, size_drawn, distortion_drawn}
use Rattle.trials.specs.Claims.{Stream, LeftOver}

-- a state has 32 bits, and a draw 16
pub next_fits : (s : ℕ) → next s < 4294967296
unfolding next
next_fits s = omega arith

pub draw_fits : (s n : ℕ) → draw s n < 65536
unfolding draw
draw_fits s n = let f = next_fits (after n s) in omega arith

halves : (x : ℕ) → x ≡ x / 65536 * 65536 + x % 65536
halves x = omega arith

wraps : (x : ℕ) → x ≡ x / 4294967296 * (65536 * 65536) + x % 4294967296
wraps x = omega arith

pub stream : Stream
unfolding after draw
stream s n = (
  record {
    wraps = (after n s * 1664525 + 1013904223) / 4294967296;
    low = next (after n s) % 65536;
    next_is = unfold next in (wraps (after n s * 1664525 + 1013904223));
    small = next_fits (after n s);
    halves = halves (next (after n s));
    low_small = omega arith;
  },
  refl,
)

-- draws from a state that draws led to are later draws
pub after_more : (k n s : ℕ) → after k (after n s) ≡ after (n + k) s
unfolding after
after_more zero n s = let e : n + 0 ≡ n = omega arith in rw e
after_more (suc k) n s = let e : n + suc k ≡ suc (n + k) = omega arith in ap next (after_more k n s) ∙ rw e

pub draw_later : (n k s : ℕ) → draw (after n s) k ≡ draw s (n + k)
unfolding draw
draw_later n k s = rw (after_more k n s)

-- each number that is drawn, in the claims' words
pub first_left : (s : ℕ) → LeftOver 4 (draw s 0) (rate_drawn s 0)
unfolding rate_drawn
first_left s = record { times = draw s 0 / 4; is = omega arith; less = omega arith }

pub later_adds : (s y left : ℕ) → LeftOver 4 (draw s (suc y)) left → rate_drawn s (suc y) ≡ rate_drawn s y + 1 + left
unfolding rate_drawn
later_adds s y left l = let e = l.is in let h = l.less in omega arith

pub size_left : (s k : ℕ) → LeftOver 64 (draw s (2 * k)) (size_drawn s k)
unfolding size_drawn
size_left s k = record { times = draw s (2 * k) / 64; is = omega arith; less = omega arith }

-- rates rise, and slowly
pub rate_most : (s y : ℕ) → rate_drawn s y ≤ 3 + 4 * y
unfolding rate_drawn
rate_most s zero = omega arith
rate_most s (suc y) = omega (arith, rate_most s y)

pub rate_rises : (s y : ℕ) → rate_drawn s y < rate_drawn s (suc y)
unfolding rate_drawn
rate_rises s y = omega arith

-- codings further on are those from the state there
pub size_later : (s n k : ℕ) → size_drawn (after (2 * n) s) k ≡ size_drawn s (n + k)
unfolding size_drawn
size_later s n k = ap (λ (v : ℕ). v % 64) (draw_later (2 * n) _ s ∙ ap (draw s) (omega arith))

pub distortion_later : (s n k : ℕ) → distortion_drawn (after (2 * n) s) k ≡ distortion_drawn s (n + k)
unfolding distortion_drawn
distortion_later s n k = draw_later (2 * n) _ s ∙ ap (draw s) (omega arith)

-- and a distortion is a draw
pub distortion_fits : (s k : ℕ) → distortion_drawn s k < 65536
unfolding distortion_drawn
distortion_fits s k = draw_fits s _
