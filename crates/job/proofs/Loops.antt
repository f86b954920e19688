-- The fields of a record's body as the lists of rates and codings that a loop goes through.
use Prim.Native.Nat.{ℕ, ◌+◌, ◌*◌, ◌<◌}
use mathlib.Core.Path.{◌≡◌, sym, ◌∙◌}
use mathlib.Core.List.{List}
use lib.ListN.{length, get_or, take, drop, replicate, length-replicate}
use Rattle.model.specs.Job.{nothing}
use Rattle.format.specs.Fields.{number, fields}
use Rattle.format.specs.JobBytes.{codings, entry_widths}
use Rattle.format.proofs.Fields.{nth_field}
use Rattle.format.proofs.Parsing.{fields_length}
use Rattle.format.proofs.Places.{entry_at}

module _ (body : List ℕ) (n : ℕ) where
  pub rates_count : length (fields (replicate n 2) body) ≡ n
  rates_count = fields_length _ _ ∙ length-replicate n 2

  pub rate_there : (i : ℕ) → i < n → (r : ℕ) → r ≡ number (take 2 (drop (2 * i) body)) → r ≡ get_or (fields (replicate n 2) body) i 0
  rate_there i h r e = e ∙ sym (nth_field n 2 i body h)

  pub coding_there : (x : ℕ) → x < n → (s d : ℕ) → s ≡ number (take 2 (drop (6 * x) body)) → d ≡ number (take 4 (drop (6 * x + 2) body)) → get_or (codings (fields (entry_widths n) body)) x nothing ≡ record { size = s; distortion = d }
  coding_there x h s d e f = rw (e, f) (entry_at n x body h)
