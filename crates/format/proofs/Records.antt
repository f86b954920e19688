-- How many bytes rates and entries take, and what a block of fields is read as: 1 where it is cut, else the first limit that is not kept, else its values.
use Prim.Native.Nat.{ℕ, zero, suc, ◌*◌, ◌≤◌, ◌<◌}
use mathlib.Core.Path.{◌≡◌, refl, sym, ◌∙◌}
use mathlib.Core.Option.{none, some}
use mathlib.Core.List.{List}
use native.Mathlib.Omega.{arith}
use native.Mathlib.Nat.{mul-zero, mul-suc}
use borrow.Author.Tests.{le-ltb, lt-ltb}
use lib.ListN.{length, replicate}
use Rattle.format.specs.Fields.{total, fields}
use Rattle.format.specs.Limits.{Limit, broken}
use Rattle.format.specs.Parser.{refused, took, unless_refused}
use Rattle.format.specs.Records.{block}
use Rattle.format.specs.JobBytes.{entry_widths}

pub total_same : (n w : ℕ) → total (replicate n w) ≡ w * n
unfolding total
total_same zero w = sym (mul-zero w)
total_same (suc n) w = omega (arith, total_same n w, mul-suc w n)

pub total_entries : (m : ℕ) → total (entry_widths m) ≡ 6 * m
unfolding total entry_widths
total_entries zero = refl
total_entries (suc m) = omega (arith, total_entries m)

module _ (ws : List ℕ) (limits : List ℕ → List Limit) (b : List ℕ) where
  pub block_short : length b < total ws → block ws limits b ≡ refused 1
  unfolding block
  block_short h = rw (lt-ltb (length b) (total ws) h)

  pub block_there : total ws ≤ length b → block ws limits b ≡ unless_refused (broken (limits (fields ws b))) (took (fields ws b) (total ws))
  unfolding block
  block_there h = rw (le-ltb (length b) (total ws) h)

  pub block_took : total ws ≤ length b → broken (limits (fields ws b)) ≡ none → block ws limits b ≡ took (fields ws b) (total ws)
  unfolding unless_refused
  block_took h e = block_there h ∙ rw e

  pub block_broken : (n : ℕ) → total ws ≤ length b → broken (limits (fields ws b)) ≡ some n → block ws limits b ≡ refused n
  unfolding unless_refused
  block_broken n h e = block_there h ∙ rw e
