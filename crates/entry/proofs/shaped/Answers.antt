-- `entry::shaped` meets its contract.
use Prim.Native.Nat.{ℕ, ◌-◌, ◌*◌, ◌+◌}
use native.Mathlib.Omega.{arith}
use borrow.Author.Rules.{rules}
use mathlib.Core.Bool.{true, false}
use mathlib.Core.Path.{◌≡◌, sym, ◌∙◌, ap}
use Rattle.entry.proofs.Shapes.{shaped_not_long, shaped_by_entries}
use Rattle.header.specs.Answers.{plain}
use Rattle.replaying.specs.Entries.{entry_size, rate_field, choice_field, fits_under, entries_fit}
use Rattle.format.specs.Choices.{no_choice}
use Rattle.base.proofs.All.{all_none, all_more, all_stop}
use Rattle.entry.proofs.shaped.Goals as goal

pub returns-then-entries-total : goal.returns-then-entries-total
unfolding plain
returns-then-entries-total c = shaped_not_long _ _ (λ e. c.if-entries-total.true (e ∙ ap (λ (n : ℕ). entry_size * n) (sym c.intervals-total.ensures)))

pub loop-place-init : goal.loop-place-init
unfolding entries_fit
loop-place-init c = (search rules, all_none _)

pub returns-then-not-entry_fits : goal.returns-then-not-entry_fits
unfolding entries_fit plain
returns-then-not-entry_fits c =
    let r = c.entry_at-entry.ensures in
    -- the test of an entry, in the terms of the bytes
    let tested : c.entry_fits.result ≡ fits_under no_choice (plain c.args.header) c.loop-place.place (rate_field c.args.entries.now c.loop-place.place) (choice_field c.args.entries.now c.loop-place.place) = c.entry_fits.ensures ∙ rw (r.rate, r.choice) in
    let t = c.intervals-total in
    shaped_by_entries _ _ (omega (arith, t.ensures, c.if-entries-total.false)) false (all_stop _ c.loop-place.place _ (omega (arith, t.ensures)) (sym tested ∙ c.if-not-entry_fits.true))

pub loop-place-preserved : goal.loop-place-preserved
unfolding entries_fit
loop-place-preserved c =
    let r = c.entry_at-entry.ensures in
    -- the test of an entry, in the terms of the bytes
    let tested : c.entry_fits.result ≡ fits_under no_choice (plain c.args.header) c.loop-place.place (rate_field c.args.entries.now c.loop-place.place) (choice_field c.args.entries.now c.loop-place.place) = c.entry_fits.ensures ∙ rw (r.rate, r.choice) in
    (search rules, all_more _ _ c.loop-place.invariant.1 (sym tested ∙ c.if-not-entry_fits.false))

pub returns : goal.returns
unfolding plain
returns c =
    let t = c.intervals-total in
    let h = c.args.header in
    let k : c.loop-place.place ≡ h.units + h.delay = omega (arith, t.ensures) in
    shaped_by_entries _ _ (omega (arith, t.ensures, c.if-entries-total.false)) true (sym (rw k at c.loop-place.invariant.1))
