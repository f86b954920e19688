-- The stream of draws from a starting state (document 02, E11).
use Rattle.std.specs.Prelude.{ℕ, zero, suc, ◌+◌, ◌*◌, ◌/◌, ◌%◌}

-- "the next state is state × 1,664,525 + 1,013,904,223, wrapping at 32 bits"
unfoldable pub next : ℕ → ℕ
next s = (s * 1664525 + 1013904223) % 4294967296

-- the state after n draws
unfoldable pub after : ℕ → ℕ → ℕ
after zero s = s
after (suc n) s = next (after n s)

-- "a draw is the next state divided by 65,536, rounded down": the n-th from a state, counted from 0
unfoldable pub draw : ℕ → ℕ → ℕ
draw s n = next (after n s) / 65536

-- the rates, one draw each: "the first rate is a draw modulo 4; each later rate adds 1 plus a draw modulo 4"
unfoldable pub rate_drawn : ℕ → ℕ → ℕ
rate_drawn s zero = draw s 0 % 4
rate_drawn s (suc y) = rate_drawn s y + (1 + draw s (suc y) % 4)

-- the codings, counted over all units, two draws each: "grains are a draw modulo 64, then distortion is a draw"
unfoldable pub size_drawn : ℕ → ℕ → ℕ
size_drawn s k = draw s (2 * k) % 64

unfoldable pub distortion_drawn : ℕ → ℕ → ℕ
distortion_drawn s k = draw s (2 * k + 1)
