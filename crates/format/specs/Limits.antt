-- Limits on values, each with the refusal that it is checked by, and the first of a list that is not kept.
use Rattle.std.specs.Prelude.{ℕ, ◌≤◌, Bool, true, false, List, [], ◌∷◌, leb, if◌then◌else◌}
use Rattle.std.proofs.Math.Option.{Option, none, some}

pub record Limit : Type 0 where
  pub low : ℕ
  pub value : ℕ
  pub high : ℕ
  pub refusal : ℕ

abbrev pub limit : ℕ → ℕ → ℕ → ℕ → Limit
limit k lo hi v = record { low = lo; value = v; high = hi; refusal = k }

unfoldable pub kept : Limit → Bool
kept l = if leb l.low l.value then leb l.value l.high else false

-- both limits are kept
unfoldable pub both_kept : Limit → Limit → Bool
both_kept l m = if kept l then kept m else false

-- all of a list are kept, as a test
unfoldable pub each_kept : List Limit → Bool
each_kept [] = true
each_kept (l ∷ ls) = if kept l then each_kept ls else false

-- the refusal of the first limit that is not kept
unfoldable pub broken : List Limit → Option ℕ
broken [] = none
broken (l ∷ ls) = if kept l then broken ls else some l.refusal

-- all are kept
abbrev pub AllKept : List Limit → Type 0
AllKept [] = Unit {0}
AllKept (l ∷ ls) = ((l.low ≤ l.value) × (l.value ≤ l.high)) × AllKept ls
