-- Whether an entry is in range and a plan in shape, from what each test answered.
use Prim.Native.Nat.{ℕ, ◌+◌, ◌*◌, ◌<◌, ◌≤◌}
use mathlib.Core.Path.{◌≡◌}
use mathlib.Core.Bool.{Bool, false}
use mathlib.Core.List.{List}
use lib.Dec.{eqb, ltb}
use lib.ListN.{length}
use borrow.Author.Tests.{lt-ltb, le-ltb, eq-eqb, ne_eqb}
use Rattle.format.specs.Choices.{no_choice}
use Rattle.format.specs.JobBytes.{Header}
use Rattle.replaying.specs.Entries.{entry_size, rate_field, choice_field, fits_under, entries_fit, shaped}

module _ (h : Header) where
  module _ (mark i rate x : ℕ) where
    pub entry_no_rate : h.rates ≤ rate → false ≡ fits_under mark h i rate x
    unfolding fits_under
    entry_no_rate l = rw (le-ltb rate h.rates l)

    pub entry_waits : rate < h.rates → i < h.delay → eqb x mark ≡ fits_under mark h i rate x
    unfolding fits_under
    entry_waits l k = rw (lt-ltb rate h.rates l, lt-ltb i h.delay k)

    pub entry_decodes : rate < h.rates → h.delay ≤ i → ltb x h.choices ≡ fits_under mark h i rate x
    unfolding fits_under
    entry_decodes l k = rw (lt-ltb rate h.rates l, le-ltb i h.delay k)

  module _ (b : List ℕ) where
    pub shaped_not_long : (length b ≡ entry_size * (h.units + h.delay) → ⊥) → false ≡ shaped h b
    unfolding shaped
    shaped_not_long f = rw (ne_eqb _ _ f)

    pub shaped_by_entries : length b ≡ entry_size * (h.units + h.delay) → (t : Bool) → t ≡ entries_fit no_choice h (rate_field b) (choice_field b) (h.units + h.delay) → t ≡ shaped h b
    unfolding shaped
    shaped_by_entries e t q = rw (eq-eqb _ _ e) q
