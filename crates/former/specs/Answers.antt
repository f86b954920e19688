-- What the answers of this crate mean in the terms of `replaying`.
use Rattle.std.specs.Prelude.{ℕ, ◌≡◌, List, Result}
use Rattle.base.specs.Lent.{Ended}
use Rattle.replaying.specs.Former.{former_rate, former_choice}
use Rattle.former.specs.declared.Entry.{Entry}
use Rattle.header.specs.declared.refusal.Refusal.{Refusal}
use Rattle.header.specs.Answers.{done}

-- nothing more than that it was turned, or the refusal's number
unfoldable pub turned : Result (Unit {0}) Refusal → List ℕ → Ended (Unit {0})
turned r list = record { answer = done r; list = list }

-- the entry in a place
pub record FormerRead (b : List ℕ) (place : ℕ) (e : Entry) : Type 0 where
  pub rate : e.rate ≡ former_rate b place
  pub choice : e.choice ≡ former_choice b place
