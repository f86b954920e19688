-- Old plans as the code reads, tests and turns them, and what turning answers and leaves.
use Prim.Native.Nat.{ℕ, suc, ◌+◌, ◌*◌, ◌-◌, ◌<◌, ◌≤◌}
use mathlib.Core.Path.{◌≡◌, refl, sym, ◌∙◌, ap}
use mathlib.Core.Bool.{Bool, true, false}
use mathlib.Core.List.{List, [], ◌∷◌, ◌++◌}
use native.Mathlib.Numerals.{add-one}
use native.Mathlib.Omega.{arith}
use lib.Dec.{leb}
use lib.ListN.{length, get_or}
use borrow.Author.Tests.{eqb-true, eq-eqb, ne_eqb, le-leb, lt-leb}
use Rattle.base.specs.Answer.{refused, gives}
use Rattle.base.specs.Lent.{over, over_at, refuse}
use Rattle.base.specs.Refusals.{test}
use Rattle.base.proofs.Lent.{stored_at, stored}
use Rattle.base.proofs.Tests.{both_true}
use Rattle.base.proofs.Refusals.{guarded_here, guarded_past, guarded_last}
use Rattle.base.specs.Refusals.{guarded}
use Rattle.model.specs.Job.{intervals}
use Rattle.format.specs.Choices.{no_choice, choice_under, choice_number}
use Rattle.format.specs.JobBytes.{Header, job_in, archive, parse, Opens}
use Rattle.format.specs.Parser.{on_read}
use Rattle.format.specs.Parser as P
use Rattle.format.proofs.Choices.{under_mark, under_choice}
use Rattle.format.proofs.Opened.{intervals_are}
use Rattle.replaying.specs.Entries.{entry_size, entry_under, entries_from, entries_fit, one_entry, entry_bytes}
use Rattle.replaying.specs.Former.{former_mark, former_size, former_choices, former_rate, former_choice, former_entry, former_plan, former_shaped, turn_tests, turned, turn_call}
use Rattle.replaying.proofs.Entries.{one_size, bytes_size, entries_length}
use Rattle.fields.specs.Written.{put_at}
use Rattle.fields.proofs.Setting.{put_next, put_nothing, put_size}
use Rattle.entry.specs.Answers.{entry_numbers}
use Rattle.former.specs.Answers.{FormerRead}

pub entry_read : (b : List ℕ) (i : ℕ) → FormerRead b i (record { rate = get_or b (former_size * i) 0; choice = get_or b (former_size * i + 1) 0 })
unfolding former_rate former_choice
entry_read b i = record { rate = refl; choice = refl }

-- the mark, and any other choice
pub mark_widened : (x : ℕ) → x ≡ former_mark → no_choice ≡ choice_number (choice_under former_mark x)
unfolding choice_number
mark_widened x e = rw (e, under_mark former_mark) refl

pub choice_widened : (x : ℕ) → (x ≡ former_mark → ⊥) → x ≡ choice_number (choice_under former_mark x)
unfolding choice_number
choice_widened x n = rw (under_choice former_mark x n) refl

-- whether the bytes were a plan, from what each test answered
module _ (h : Header) (b : List ℕ) where
  pub too_many : former_choices < h.choices → false ≡ former_shaped h b
  unfolding former_shaped
  too_many l = rw (lt-leb h.choices former_choices l)

  pub not_long : h.choices ≤ former_choices → (length b ≡ former_size * (h.units + h.delay) → ⊥) → false ≡ former_shaped h b
  unfolding former_shaped
  not_long l f = rw (le-leb h.choices former_choices l, ne_eqb _ _ f)

  pub by_entries : h.choices ≤ former_choices → length b ≡ former_size * (h.units + h.delay) → (t : Bool) → t ≡ entries_fit former_mark h (former_rate b) (former_choice b) (h.units + h.delay) → t ≡ former_shaped h b
  unfolding former_shaped
  by_entries l e t q = rw (le-leb h.choices former_choices l, eq-eqb _ _ e) q

  -- an old plan has its bytes
  pub long_enough : former_shaped h b ≡ true → former_size * (h.units + h.delay) ≤ length b
  unfolding former_shaped
  long_enough e = omega (arith, eqb-true (length b) (former_size * (h.units + h.delay)) (both_true _ _ (both_true _ _ e).1).0)

-- bytes that are written stand over the list
put_over_at : (new l : List ℕ) (at : ℕ) → at + length new ≤ length l → over_at at new l ≡ put_at l at new
unfolding put_at
put_over_at new l at h = sym (stored_at new l at h)

put_over : (new l : List ℕ) → length new ≤ length l → put_at l 0 new ≡ over new l
unfolding put_at
put_over new l h = stored new l h

-- entries written one after another: what is left to write from a place on
module _ (old : List ℕ) (total : ℕ) where
  unfoldable pub left : ℕ → List ℕ
  left place = entry_bytes (entries_from (former_entry old) place (total - place))

  pub record Written (entries₀ : List ℕ) (place : ℕ) (entries : List ℕ) : Type 0 where
    pub few : place ≤ total
    pub size : length entries ≡ length entries₀
    pub is : put_at entries (entry_size * place) (left place) ≡ put_at entries₀ 0 (left 0)

  pub written_none : (entries : List ℕ) → Written entries 0 entries
  written_none entries = record { few = omega arith; size = refl; is = refl }

  pub written_more : (entries₀ entries new : List ℕ) (place rate choice : ℕ) → Written entries₀ place entries → place < total → entry_size * total ≤ length entries₀ → rate ≡ former_rate old place → choice ≡ choice_number (choice_under former_mark (former_choice old place)) → new ≡ over_at (entry_size * place) (entry_numbers rate choice) entries → Written entries₀ (place + 1) new
  unfolding left entries_from entry_bytes
  written_more entries₀ entries new place rate choice w l room r c e =
      let one = one_entry (former_entry old place) in
      let numbers : entry_numbers rate choice ≡ one = unfold entry_numbers one_entry former_entry entry_under in rw (r, c) in
      let more : total - place ≡ suc (total - (place + 1)) = omega arith in
      let fits : entry_size * place + length one ≤ length entries = omega (arith, one_size (former_entry old place), w.size) in
      let stands : new ≡ put_at entries (entry_size * place) one = e ∙ rw numbers (put_over_at one entries (entry_size * place) fits) in
      let parts : left place ≡ one ++ left (place + 1) = rw (more, add-one place) refl in
      let next : entry_size * place + entry_size ≡ entry_size * (place + 1) = omega arith in
      record {
        few = omega arith;
        size = put_size entries new (entry_size * place) one stands ∙ w.size;
        is =
            rw stands (sym (put_next entries (entry_size * place) entry_size (entry_size * (place + 1)) one (left (place + 1)) (one_size (former_entry old place)) next))
            ∙ ap (put_at entries (entry_size * place)) (sym parts)
            ∙ w.is;
      }

  pub written_all : (entries₀ entries : List ℕ) (place : ℕ) → Written entries₀ place entries → total ≤ place → entry_size * total ≤ length entries₀ → entries ≡ over (entry_bytes (entries_from (former_entry old) 0 total)) entries₀
  unfolding left entries_from entry_bytes
  written_all entries₀ entries place w l room =
      let none : total - place ≡ 0 = omega arith in
      let all : total - 0 ≡ total = omega arith in
      let size : length (entry_bytes (entries_from (former_entry old) 0 total)) ≤ length entries₀ = omega (arith, bytes_size (entries_from (former_entry old) 0 total), entries_length (former_entry old) 0 total) in
      sym (put_nothing entries (entry_size * place)) ∙ rw none at w.is ∙ rw all (put_over (entry_bytes (entries_from (former_entry old) 0 total)) entries₀ size)

-- what turning answers and leaves, of a job that opens
module _ (b : List ℕ) (h : Header) (o : Opens b h) (old entries : List ℕ) where
  turn_on : turn_call b old entries ≡ guarded (refuse entries) (test 14 (former_shaped h old) ∷ test 12 (leb (entry_size * intervals (job_in b)) (length entries)) ∷ []) (turned (job_in b) old entries)
  unfolding turn_call on_read turn_tests
  turn_on = rw (o.parsed, o.header_is)

  pub turn_14 : former_shaped h old ≡ false → record { answer = refused 14; list = entries } ≡ turn_call b old entries
  unfolding refuse
  turn_14 e = sym (turn_on ∙ guarded_here (refuse entries) _ _ _ e)

  module _ (e : former_shaped h old ≡ true) where
    pub turn_12 : length entries < entry_size * (h.units + h.delay) → record { answer = refused 12; list = entries } ≡ turn_call b old entries
    unfolding refuse
    turn_12 l = sym (turn_on ∙ guarded_past (refuse entries) _ _ _ e ∙ guarded_here (refuse entries) _ _ _ (lt-leb (entry_size * intervals (job_in b)) (length entries) (omega (arith, intervals_are b h o))))

    pub turn_done : (new : List ℕ) → entry_size * (h.units + h.delay) ≤ length entries → new ≡ over (entry_bytes (entries_from (former_entry old) 0 (h.units + h.delay))) entries → record { answer = gives tt; list = new } ≡ turn_call b old entries
    unfolding turned former_plan
    turn_done new l q = sym (turn_on ∙ guarded_past (refuse entries) _ _ _ e ∙ guarded_last (refuse entries) _ _ (le-leb (entry_size * intervals (job_in b)) (length entries) (omega (arith, intervals_are b h o))) ∙ rw (q, intervals_are b h o))

pub turn_refused : (b old entries : List ℕ) (n : ℕ) → parse archive b ≡ P.refused n → record { answer = refused n; list = entries } ≡ turn_call b old entries
unfolding turn_call on_read refuse
turn_refused b old entries n e = rw e
