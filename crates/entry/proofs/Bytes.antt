-- An entry's bytes: as they are read, and as they are written.
use Prim.Native.Nat.{ℕ, ◌+◌, ◌*◌, ◌/◌, ◌%◌, ◌<◌, ◌≤◌}
use mathlib.Core.Path.{◌≡◌, sym, ◌∙◌}
use mathlib.Core.List.{List, [], ◌∷◌}
use native.Mathlib.Omega.{arith}
use native.Mathlib.Nat.{mod-eq_of_lt}
use lib.ListN.{length, get_or, set, length-set, take, drop}
use lib.Seq.{drop-drop}
use native.Mathlib.Numerals.{add-one}
use Rattle.base.proofs.Lent.{stored_at}
use Rattle.base.specs.Lent.{over_at}
use Rattle.format.specs.Fields.{number, bytes, fields, spelled}
use Rattle.fields.specs.Written.{put_at}
use Rattle.fields.proofs.Setting.{put_size}
use Rattle.format.proofs.Fields.{one_at}
use Rattle.replaying.specs.Entries.{entry_size, entry_fields, rate_field, choice_field}
use Rattle.entry.specs.Answers.{entry_numbers, EntryRead}

pub entry_read : (b : List ℕ) (i choice : ℕ) → entry_size * i + entry_size ≤ length b → choice ≡ number (take 2 (drop (entry_size * i + 1) b)) → EntryRead b i (record { rate = get_or b (entry_size * i) 0; choice = choice })
unfolding rate_field choice_field entry_fields fields
entry_read b i choice h e = record {
  rate = sym (one_at b (entry_size * i) (omega arith));
  choice = e ∙ sym (rw (drop-drop 1 (entry_size * i) b));
}

-- a byte and a number of two bytes, stored one after the other
pub entry_written : (l m : List ℕ) (at rate choice : ℕ) → rate < 256 → at + entry_size ≤ length l → m ≡ put_at (set l at rate) (at + 1) (bytes 2 choice) → m ≡ over_at at (entry_numbers rate choice) l
unfolding entry_numbers spelled bytes put_at
entry_written l m at rate choice p h e = e ∙ rw (mod-eq_of_lt p, add-one at) (stored_at (rate ∷ choice % 256 ∷ choice / 256 % 256 ∷ []) l at h)

pub written_size : (l m : List ℕ) (at rate next : ℕ) (vs : List ℕ) → m ≡ put_at (set l at rate) next vs → length m ≡ length l
written_size l m at rate next vs e = put_size (set l at rate) m next vs e ∙ length-set l at rate
