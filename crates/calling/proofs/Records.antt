-- The command record: in which order it is refused, what is read, and that exactly the records of calls are taken: `CommandRecords`, `CommandReadsBack` and `CommandWritesBack`.
use Prim.Native.Nat.{ℕ, ◌≤◌}
use mathlib.Core.Path.{◌≡◌, refl, sym}
use mathlib.Core.Logic.{◌⊎◌, inl, inr}
use mathlib.Core.List.{List, [], ◌∷◌}
use native.Mathlib.Omega.{arith}
use lib.ListN.{length, drop}
use lib.Seq.{drop-drop}
use Rattle.model.specs.Pins.{Call, pin, lift}
use Rattle.format.specs.Fields.{total, fields, Fit}
use Rattle.format.specs.Fields as F
use Rattle.format.specs.Records.{Filled, filled, head_widths, head_values, form_for, plain_form, record_either}
use Rattle.format.specs.Claims.{u16_at, Due}
use Rattle.format.proofs.Fields.{two_at}
use Rattle.format.proofs.RoundTrip.{head_fit}
use Rattle.format.proofs.Exact.{Exact, exact_map}
use Rattle.format.proofs.Orders.{head_mapped, body_mapped, revalued}
use Rattle.format.proofs.Either.{FilledGood, exact_either, either_form, either_head, first_body, second_body}
use Rattle.calling.specs.Commands.{pin_form, lift_form, call_of, record_of, command, command_bytes}
use Rattle.calling.specs.Claims.{InTwoBytes, CommandRecords, CommandReadsBack, CommandWritesBack}

apart : pin_form.kind ≡ lift_form.kind → ⊥
unfolding pin_form lift_form plain_form
apart e = omega arith

-- the fields by their places
pin_at : (b : List ℕ) → 8 ≤ length b → call_of (filled pin_form (fields pin_form.widths (drop 4 b))) ≡ pin (u16_at b 4) (u16_at b 6)
unfolding call_of pin_form plain_form fields
pin_at b h = rw (drop-drop, two_at b 4 (omega arith), two_at b 6 (omega arith))

lift_at : (b : List ℕ) → 6 ≤ length b → call_of (filled lift_form (fields lift_form.widths (drop 4 b))) ≡ lift (u16_at b 4)
unfolding call_of lift_form plain_form fields
lift_at b h = rw (two_at b 4 (omega arith))

-- the sizes, and no limits
pin_size : total pin_form.widths ≡ 4
unfolding pin_form plain_form total
pin_size = refl

lift_size : total lift_form.widths ≡ 2
unfolding lift_form plain_form total
lift_size = refl

pub command_records : CommandRecords
unfolding command pin_form lift_form plain_form
command_records b = record {
  head = head_mapped (record_either pin_form lift_form) call_of (Due 6 4 b ⊎ Due 7 2 b) b (either_head pin_form lift_form apart 4 2 2 2 pin_size lift_size (λ vs. tt) (λ vs. tt) b);
  pins = revalued command 6 4 2 _ (λ l. pin (u16_at l 4) (u16_at l 6)) (λ k. Unit {0}) b (pin_at b) (body_mapped (record_either pin_form lift_form) call_of 6 4 2 _ (λ k. Unit {0}) b (first_body pin_form lift_form apart 4 2 2 2 pin_size lift_size (λ vs. tt) (λ vs. tt) b));
  lifts = revalued command 7 2 2 _ (λ l. lift (u16_at l 4)) (λ k. Unit {0}) b (lift_at b) (body_mapped (record_either pin_form lift_form) call_of 7 2 2 _ (λ k. Unit {0}) b (second_body pin_form lift_form apart 4 2 2 2 pin_size lift_size (λ vs. tt) (λ vs. tt) b));
}

-- both forms fit their heads
heads : (k : ℕ) → Fit head_widths (head_values (form_for pin_form lift_form k))
heads k = go (either_form pin_form lift_form apart k)
  where
    first : Fit head_widths (head_values pin_form)
    first = head_fit pin_form (omega (arith, pin_size)) (unfold pin_form plain_form in omega arith)

    second : Fit head_widths (head_values lift_form)
    second = head_fit lift_form (omega (arith, lift_size)) (unfold lift_form plain_form in omega arith)

    go : ((form_for pin_form lift_form k ≡ pin_form) ⊎ (form_for pin_form lift_form k ≡ lift_form)) → Fit head_widths (head_values (form_for pin_form lift_form k))
    go (inl e) = rw e first
    go (inr e) = rw e second

-- calls and their records
record_good : (k : Call) → InTwoBytes k → FilledGood pin_form lift_form (record_of k) × (call_of (record_of k) ≡ k)
unfolding record_of call_of form_for pin_form lift_form plain_form
record_good (pin u c) h = (record { due = refl; good = record { fit = F.one_more {w = 2} h.0 (F.one_more {w = 2} h.1 F.no_more); kept = tt } }, refl)
record_good (lift u) h = (record { due = refl; good = record { fit = F.one_more {w = 2} h F.no_more; kept = tt } }, refl)

abbrev Sound : Filled → Type 0
Sound r = InTwoBytes (call_of r) × (record_of (call_of r) ≡ r)

pin_sound : (k : ℕ) {vs : List ℕ} → k ≡ 6 → Fit (2 ∷ 2 ∷ []) vs → Sound (record { kind = k; values = vs })
unfolding record_of call_of
pin_sound k e (F.one_more h (F.one_more g F.no_more)) = rw e ((h, g), refl)

lift_sound : (k : ℕ) {vs : List ℕ} → k ≡ 7 → Fit (2 ∷ []) vs → Sound (record { kind = k; values = vs })
unfolding record_of call_of
lift_sound k e (F.one_more h F.no_more) = rw e (h, refl)

good_record : (r : Filled) → FilledGood pin_form lift_form r → Sound r
unfolding pin_form lift_form plain_form
good_record r g = go (either_form pin_form lift_form apart r.kind)
  where
    go : ((form_for pin_form lift_form r.kind ≡ pin_form) ⊎ (form_for pin_form lift_form r.kind ≡ lift_form)) → Sound r
    go (inl e) = pin_sound r.kind (sym (rw e at g.due)) (rw e at g.good).fit
    go (inr e) = lift_sound r.kind (sym (rw e at g.due)) (rw e at g.good).fit

exact_command : Exact command InTwoBytes command_bytes
unfolding command command_bytes
exact_command = exact_map (exact_either pin_form lift_form heads) call_of record_of InTwoBytes record_good good_record

pub command_reads_back : CommandReadsBack
command_reads_back k h rest = exact_command.forth k h rest

pub command_writes_back : CommandWritesBack
command_writes_back b B k n e = let r = exact_command.back b B k n e in record { fits = r.good; size = r.size; same = r.same }
