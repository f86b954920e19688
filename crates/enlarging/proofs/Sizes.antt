-- The list of larger buckets, with any set and after any list of pins and lifts: `SizesCalls`, `SizesAfter`; what a refusal leaves and which there are: `Refuses`, `SizesKeep`, `NoThirteen`; what planning answers for each size: `SizesPlanned`; how many words are asked for: `LargestWords`.
use Prim.Native.Nat.{ℕ, ◌+◌, ◌*◌, ◌-◌, ◌≤◌}
use mathlib.Core.Path.{◌≡◌, refl, sym, ap, ◌∙◌}
use mathlib.Core.Logic.{◌↔◌, ◌⊎◌, inl, inr}
use mathlib.Core.Bool.{Bool, true, false}
use mathlib.Core.Option.{Option, none, some}
use mathlib.Core.List.{List, [], ◌∷◌}
use native.Mathlib.Omega.{arith}
use lib.Dec.{leb}
use lib.ListN.{length, get_or}
use borrow.Author.Tests.{leb-true, le-leb}
use Rattle.trellis.specs.Table.{encode}
use Rattle.base.specs.Answer.{refused}
use Rattle.base.specs.Refusals.{test, refusal, unless, guarded}
use Rattle.base.specs.Lent.{over}
use Rattle.base.proofs.Answers.{refused_same, not_refused, gives_same}
use Rattle.base.proofs.Builds.{build_length, build_at}
use Rattle.base.proofs.Lent.{over_length, over_here, over_rest}
use Rattle.base.proofs.Refusals.{Decides, no_more, one_more, in_order, Guarded, was_refused, was_done, guarded_is}
use Rattle.model.specs.Job.{Job, on_line}
use Rattle.model.specs.Pins.{PinMap}
use Rattle.model.specs.Best.{Order, total, unlimited, least_total, open_for}
use Rattle.model.specs.Table.{mark, words, Bounded}
use Rattle.model.specs.Claims.{WordClaim}
use Rattle.model.proofs.Lines.{intervals_on, bounded_on}
use Rattle.model.specs.Replay.{Totals, totals}
use Rattle.model.proofs.Words.{words_of_one, words_of_two}
use Rattle.model.proofs.Planning.{planning}
use Rattle.model.proofs.TableWords.{word_means}
use Rattle.format.specs.Parser.{Result, refused, took, on_read}
use Rattle.format.specs.JobBytes.{opening}
use Rattle.format.proofs.Bounds.{limited, bounded}
use Rattle.format.proofs.Places.{well_read}
use Rattle.pinning.specs.PinSet.{lines}
use Rattle.pinning.specs.Check.{checked}
use Rattle.pinning.proofs.Agree.{checked_parsed, looks_checked}
use Rattle.pinning.proofs.History.{history}
use Rattle.planning.specs.Calls.{searched, search_in}
use Rattle.planning.proofs.DemandThree.{plan_searches, plan_checked}
use Rattle.planning.proofs.Layers.{from_rest, from_length, from_table}
use Rattle.enlarging.specs.Larger.{with_bucket, with_size}
use Rattle.enlarging.specs.Calls.{own_size, sizes, sized, least_at, least_totals, Listed, refuse, size_tests, list_in, list_all, sizes_call}
use Rattle.enlarging.specs.Claims.{Asks, SizesClaim, SizesCalls, SizesAfter, Refuses, SizesKeep, NoThirteen, PlannedClaim, SizesPlanned, LargestWords}
use Rattle.enlarging.proofs.Falling.{small_total, least_falls}

-- what is written, of a job within the limits
module _ (j : Job) (m : PinMap) (b : Bounded j) (small : own_size j ≤ 255) (table totals : List ℕ) (room : words (sized j 255) ≤ length table) (space : 256 ≤ own_size j + length totals) where
  abbrev K : ℕ
  K = own_size j

  count : length (least_totals j m) ≡ 256 - K
  unfolding least_totals sizes
  count = build_length (256 - K) _

  enough : length (least_totals j m) ≤ length totals
  enough = omega (arith, count)

  number : (i : ℕ) → K + i ≤ 255 → get_or (over (least_totals j m) totals) i 0 ≡ least_at j m (K + i)
  unfolding least_totals sizes
  number i h = over_here (least_totals j m) totals enough i (omega (arith, count)) ∙ build_at (256 - K) (λ i. least_at j m (K + i)) i (omega arith)

  means : (size : ℕ) → WordClaim (sized j size) (unlimited m) 0 j.start (least_at j m size)
  unfolding least_at
  means size = word_means (sized j size) (unlimited m) 0 j.start (bounded_on j (with_size j.line 0 size) b) (omega arith) (least_total (sized j size) (unlimited m) 0 j.start) refl

  pub written : SizesClaim j m table totals (list_in j m table totals)
  unfolding list_in
  written = record {
    done = refl;
    least = λ i h. rw (number i h) (means (K + i));
    falls = λ i h. rw (number i (omega arith), number (i + 1) (omega arith)) (least_falls j m (K + i) (K + (i + 1)) b (omega arith));
    totals_rest = over_rest (least_totals j m) totals enough (256 - K) count;
    totals_size = over_length (least_totals j m) totals enough;
    table_is = from_table (sized j 255) (unlimited m) 0 table (omega arith) room;
    table_rest = from_rest ◌+◌ (sized j 255) (unlimited m) 0 table (omega arith) room;
    table_size = from_length ◌+◌ (sized j 255) (unlimited m) 0 table (omega arith) room;
  }

decides : (j : Job) (table totals : List ℕ) → own_size j ≤ 255 → Decides (size_tests j (length table) (length totals)) (Asks j table totals)
unfolding size_tests sizes
decides j table totals small =
    one_more refl (leb-true (words (sized j 255)) (length table), le-leb (words (sized j 255)) (length table))
    (one_more refl space_iff no_more)
  where
    space_iff : (leb (256 - own_size j) (length totals) ≡ true) ↔ (256 ≤ own_size j + length totals)
    space_iff = (λ q. omega (arith, leb-true (256 - own_size j) (length totals) q), λ q. le-leb (256 - own_size j) (length totals) (omega arith))

pub sizes_calls : SizesCalls
unfolding sizes_call list_all
sizes_calls b s table totals =
    looks_checked (refuse table totals) opening b s (λ j. size_tests j (length table) (length totals)) (λ j. Asks j table totals) (λ j. list_in j (lines (length j.units) s.pins) table totals) (λ j r. SizesClaim j (lines (length j.units) s.pins) table totals r)
    (λ j k e h.
    let f = well_read opening b j k e in (
      decides j table totals (limited j f.well_formed).first_size,
      λ a. written j (lines (length j.units) s.pins) (bounded j f.well_formed) (limited j f.well_formed).first_size table totals a.0 a.1.0,
    ))

pub sizes_after : SizesAfter
unfolding sizes_call list_all on_read
sizes_after b j n parsed clicks table totals =
    let h = history b j n parsed clicks in
    let f = well_read opening b j n parsed in
    let small = (limited j f.well_formed).first_size in
    rw (h.passes, h.pins) (in_order (refuse table totals) (decides j table totals small) (SizesClaim j _ table totals) (list_in j _ table totals) _ refl (λ a. written j _ (bounded j f.well_formed) small table totals a.0 a.1.0))

-- a refusal writes nothing
abbrev Kept : List ℕ → List ℕ → Listed → Type 0
Kept table totals r = (n : ℕ) → r.answer ≡ refused n → (r.table ≡ table) × (r.totals ≡ totals)

refuse_keeps : (table totals : List ℕ) (n : ℕ) → Kept table totals (refuse table totals n)
unfolding refuse
refuse_keeps table totals n k e = (refl, refl)

guarded_keeps : (table totals : List ℕ) (r q : Listed) → Guarded (refuse table totals) r q → Kept table totals r → Kept table totals q
guarded_keeps table totals r q (was_refused n) h = refuse_keeps table totals n
guarded_keeps table totals r q was_done h = h

pub sizes_keep : SizesKeep
unfolding sizes_call list_all on_read
sizes_keep b s table totals = go (checked opening b s)
  where
    go : (r : Result Job) → Kept table totals (on_read (refuse table totals) r (λ j. list_all j s table totals))
    go (refused n) = refuse_keeps table totals n
    go (took j k) = guarded_keeps table totals (list_in j (lines (length j.units) s.pins) table totals) _ (guarded_is (refuse table totals) (size_tests j (length table) (length totals)) _) (unfold list_in in (λ n e. absurd (not_refused e)))

pub refuses : Refuses
unfolding refuse
refuses table totals n = refl

-- two tests refuse by one of two numbers
two_numbers : (table totals : List ℕ) (p q : Bool) (r : Listed) (n : ℕ) → ((k : ℕ) → r.answer ≡ refused k → ⊥) → (guarded (refuse table totals) (test 11 p ∷ test 12 q ∷ []) r).answer ≡ refused n → (n ≡ 11) ⊎ (n ≡ 12)
unfolding guarded unless refusal refuse
two_numbers table totals false q r n f e = inl (sym (refused_same e))
two_numbers table totals true false r n f e = inr (sym (refused_same e))
two_numbers table totals true true r n f e = absurd (f n e)

pub no_thirteen : NoThirteen
unfolding sizes_call on_read list_all size_tests list_in
no_thirteen b s j k e table totals n q = two_numbers table totals _ _ _ n (λ i w. not_refused w) (rw e at q)

-- what planning answers for the job with a size, from what the search finds
module _ (j : Job) (bounded_job : Bounded j) (m : PinMap) (o : Order) (table entries : List ℕ) where
  found : (x : Option ℕ) → least_total j (unlimited m) 0 j.start ≡ x → PlannedClaim (encode mark x) (searched j (unlimited m) o 0 j.start x table entries)
  unfolding encode searched totals
  found none e = record { none_iff = (λ q. refl, λ q. refl); total_is = λ t q. absurd (not_refused (sym q)) }
  found (some v) e = record {
    none_iff = (λ q. absurd (omega (arith, small_total j (unlimited m) j.start bounded_job v e)), λ q. absurd (not_refused q));
    total_is = λ t q. ap (λ (x : Totals). x.distortion) (sym (gives_same q)) ∙ (planning j (unlimited m) 0 j.start o (omega arith)).its_distortion v e;
  }

pub sizes_planned : SizesPlanned
unfolding least_at search_in open_for on_line
sizes_planned j s size b n r e same o table entries room space =
    let J = sized j size in
    let k = well_read opening b J n (checked_parsed opening b r J n e) in
    rw (plan_checked b J n r e total o table entries, plan_searches J (lines (length j.units) r.pins) total o 0 j.start table entries room (omega (arith, space, intervals_on j (with_size j.line 0 size))), same)
    (found J (bounded J k.well_formed) (lines (length j.units) s.pins) o table entries (least_total J (unlimited (lines (length j.units) s.pins)) 0 j.start) refl)

pub largest_words : LargestWords
unfolding on_line with_size with_bucket
largest_words j = record {
  one = λ k e. (words_of_one (sized j 255) (record { size = 255; drain = k.drain }) (rw e refl)).count ∙ ap (λ (n : ℕ). (n + 1) * (j.line.decoder + 1) * 256) (intervals_on j (with_size j.line 0 255));
  two = λ k k2 e. (words_of_two (sized j 255) (record { size = 255; drain = k.drain }) k2 (rw e refl)).count ∙ ap (λ (n : ℕ). (n + 1) * (j.line.decoder + 1) * 256 * (k2.size + 1)) (intervals_on j (with_size j.line 0 255));
}
