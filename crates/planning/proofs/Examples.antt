-- Job A, computed: a wrong order of refusals, of layers or of what is left behind them shows here as a number. The cases worked out by hand stand in `cases`, where no edit computes them again; these few take no time.
use Prim.Native.Nat.{ℕ, ◌+◌}
use mathlib.Core.Path.{◌≡◌, refl}
use mathlib.Core.Option.{none, some}
use mathlib.Core.List.{[], ◌∷◌, map}
use lib.ListN.{get_or, replicate}
use Rattle.base.specs.Refusals.{refusal}
use Rattle.base.specs.Evaluate as base
use Rattle.trellis.specs.Table.{encode, lowest, charge, offered}
use Rattle.trellis.specs.Pairs.{row, rows}
use Rattle.model.specs.Best.{unlimited, late, total}
use Rattle.model.specs.Evaluate.{evaluate}
use Rattle.format.specs.Choices.{choice_under, choice_number}
use Rattle.format.specs.JobBytes.{computes}
use Rattle.format.specs.JobA.{job_a, header_a, coded, bytes_a, bytes_a8}
use Rattle.format.specs.Parser.{on_read}
use Rattle.pinning.specs.PinSet.{fresh}
use Rattle.pinning.specs.Check.{accept, checked}
use Rattle.replaying.specs.Entries.{one_entry, entry_bytes}
use Rattle.planning.specs.Words.{layer, layers, table_from}
use Rattle.planning.specs.Calls as c
use Rattle.planning.specs.Rule.{coding_offer, pair_offer, least_offer, layer_from, choice_in, allowed_in, refill, refilled}

-- a word too few is 11, whatever the entries; a byte too few is 12; 80 words and 9 bytes are enough
lists_asked : refusal (c.plan_tests job_a 0 79 8) ∷ refusal (c.plan_tests job_a 0 80 8) ∷ refusal (c.plan_tests job_a 0 80 9) ∷ [] ≡ some 11 ∷ some 12 ∷ none ∷ []
unfolding base.evaluate evaluate computes job_a header_a coded c.plan_tests
lists_asked = refl

-- a bucket that never drains is 17, before lists that are too short
never_drains : c.plan_call (bytes_a8 0 0 0) (fresh header_a) total late [] [] ≡ c.refuse [] [] 17
unfolding base.evaluate evaluate computes on_read bytes_a bytes_a8 accept checked c.plan_call
never_drains = refl

-- planning over 81 words, all 9, and 12 bytes, all 7
abbrev planned : c.Planned
planned = c.plan_in job_a (none ∷ none ∷ []) total late 0 job_a.start (replicate 81 9) (replicate 12 7)

-- the first word is that of layer 0 at the starting levels; 23 has t 1, b 0, l 3; 80 stands behind the table
words_left : map (λ (i : ℕ). get_or planned.table i 0) (0 ∷ 23 ∷ 80 ∷ []) ≡ 50 ∷ 70 ∷ 9 ∷ []
unfolding base.evaluate evaluate computes job_a header_a coded encode layer layers table_from c.searched c.search_in c.plan_tests c.plan_in
words_left = refl

entries_left : planned.entries ≡ 0 ∷ 255 ∷ 255 ∷ 2 ∷ 0 ∷ 0 ∷ 1 ∷ 1 ∷ 0 ∷ 7 ∷ 7 ∷ 7 ∷ []
unfolding base.evaluate evaluate computes job_a header_a coded choice_under choice_number one_entry entry_bytes c.searched c.search_in c.plan_tests c.plan_in
entries_left = refl

-- layers 0 and 1 made anew over words of 512,000,000, each of which is a distortion: layer 1 has more wherever a unit is decoded, and layer 0 reads that as none
made_anew : get_or (refilled ◌+◌ job_a (unlimited (none ∷ none ∷ [])) 0 2 (replicate 80 512000000)) 0 0 ≡ 4294967295
unfolding base.evaluate evaluate computes job_a header_a coded lowest charge offered rows row coding_offer pair_offer least_offer layer_from choice_in allowed_in refill refilled
made_anew = refl
