-- `former::shaped` meets its contract.
use Prim.Native.Nat.{ℕ, ◌*◌, ◌+◌}
use native.Mathlib.Omega.{arith}
use borrow.Author.Rules.{rules}
use mathlib.Core.Bool.{true, false}
use mathlib.Core.Path.{◌≡◌, sym, ◌∙◌, ap}
use Rattle.base.proofs.All.{all_none, all_more, all_stop}
use Rattle.header.specs.Answers.{plain}
use Rattle.replaying.specs.Entries.{fits_under, entries_fit}
use Rattle.replaying.specs.Former.{former_mark, former_size, former_rate, former_choice}
use Rattle.former.proofs.Turning.{too_many, not_long, by_entries}
use Rattle.former.proofs.shaped.Goals as goal

pub returns-then-header-gt-MAX_CHOICES : goal.returns-then-header-gt-MAX_CHOICES
unfolding plain
returns-then-header-gt-MAX_CHOICES c = too_many _ _ c.if-header-gt-MAX_CHOICES.true

pub returns-then-old-total : goal.returns-then-old-total
unfolding plain
returns-then-old-total c = not_long _ _ c.if-header-gt-MAX_CHOICES.false (λ e. c.if-old-total.true (e ∙ ap (λ (n : ℕ). former_size * n) (sym c.intervals-total.ensures)))

pub loop-place-init : goal.loop-place-init
unfolding entries_fit
loop-place-init c = (search rules, all_none _)

pub returns-then-not-entry_fits : goal.returns-then-not-entry_fits
unfolding entries_fit plain
returns-then-not-entry_fits c =
    -- the test of an entry, in the terms of the bytes
    let tested : c.entry_fits.result ≡ fits_under former_mark (plain c.args.header) c.loop-place.place (former_rate c.args.old.now c.loop-place.place) (former_choice c.args.old.now c.loop-place.place) = let r = c.entry_at-entry.ensures in c.entry_fits.ensures ∙ rw (r.rate, r.choice) in
    let t = c.intervals-total in
    by_entries _ _ c.if-header-gt-MAX_CHOICES.false (omega (arith, t.ensures, c.if-old-total.false)) false (all_stop _ c.loop-place.place _ (omega (arith, t.ensures)) (sym tested ∙ c.if-not-entry_fits.true))

pub loop-place-preserved : goal.loop-place-preserved
unfolding entries_fit
loop-place-preserved c =
    -- the test of an entry, in the terms of the bytes
    let tested : c.entry_fits.result ≡ fits_under former_mark (plain c.args.header) c.loop-place.place (former_rate c.args.old.now c.loop-place.place) (former_choice c.args.old.now c.loop-place.place) = let r = c.entry_at-entry.ensures in c.entry_fits.ensures ∙ rw (r.rate, r.choice) in
    (search rules, all_more _ _ c.loop-place.invariant.1 (sym tested ∙ c.if-not-entry_fits.false))

pub returns : goal.returns
unfolding plain
returns c =
    let t = c.intervals-total in
    let h = c.args.header in
    let k : c.loop-place.place ≡ h.units + h.delay = omega (arith, t.ensures) in
    by_entries _ _ c.if-header-gt-MAX_CHOICES.false (omega (arith, t.ensures, c.if-old-total.false)) true (sym (rw k at c.loop-place.invariant.1))
