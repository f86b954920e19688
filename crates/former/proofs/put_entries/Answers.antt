-- `former::put_entries` meets its contract.
use mathlib.Core.Path.{ap, ◌∙◌}
use native.Mathlib.Omega.{arith}
use Rattle.format.specs.Choices.{choice_under, choice_number}
use Rattle.replaying.specs.Former.{former_mark}
use Rattle.former.proofs.Turning.{written_more, written_all}
use Rattle.former.proofs.put_entries.Goals as goal

pub loop-place-preserved : goal.loop-place-preserved
loop-place-preserved c =
    written_more _ _ _ c.loop-place.entries _ c.loop-place.place _ _ c.loop-place.invariant c.loop-place-test.true (omega (arith, c.intervals-total.ensures, c.requires.1)) c.entry_at-entry.ensures.rate (c.widened.ensures ∙ ap (λ x. choice_number (choice_under former_mark x)) c.entry_at-entry.ensures.choice) c.put_entry.ensures

pub returns : goal.returns
returns c =
    rw (← c.intervals-total.ensures) (written_all _ _ _ c.loop-place.entries c.loop-place.place c.loop-place.invariant c.loop-place-test.false (omega (arith, c.intervals-total.ensures, c.requires.1)))
