-- `playlist::plan_programme` meets its contract.
use Prim.Native.Nat.{ℕ, ◌+◌, ◌-◌}
use mathlib.Core.Path.{◌≡◌, ap, ◌∙◌}
use native.Mathlib.Omega.{arith}
use lib.ListN.{take, drop}
use Rattle.playlists.specs.Calls.{part_turn}
use Rattle.playlist.specs.Answers.{stands}
use Rattle.playlist.proofs.Parts.{turn_outside, turn_inside}
use Rattle.playlist.proofs.plan_programme.Goals as goal

pub returns-then-bytes-first : goal.returns-then-bytes-first
returns-then-bytes-first c = let a = c.args in turn_outside _ a.first a.size a.standing _ _ _ (omega (arith, c.if-bytes-first.true))

pub returns-then-bytes-first-2 : goal.returns-then-bytes-first-2
returns-then-bytes-first-2 c = let a = c.args in turn_outside _ a.first a.size a.standing _ _ _ (omega (arith, c.if-bytes-first-2.true, c.if-bytes-first.false))

pub returns : goal.returns
returns c =
    let a = c.args in
    let n : a.first + a.size - a.first ≡ a.size = omega arith in
    c.plan_part.ensures
    ∙ ap (λ (k : ℕ). part_turn (take k (drop a.first a.bytes.now)) (stands a.standing a.table.now a.entries.now a.totals.now)) n
    ∙ turn_inside a.bytes.now a.first a.size a.standing a.table.now a.entries.now a.totals.now (omega (arith, c.if-bytes-first-2.false, c.if-bytes-first.false))
