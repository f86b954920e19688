-- What the answers of this crate mean in the terms of the crate `pinning`, case by case.
use Rattle.header.specs.Answers.{answer_by, verdict}
use Rattle.pinning.specs.Calls as calls
use Rattle.pinset.specs.Answers.{set_of}
use Rattle.pins.specs.declared.Opened.{Opened}
use Rattle.pins.specs.declared.Handed.{Handed}

unfoldable pub opening : Opened → calls.Opening
opening r = record { answer = answer_by (λ k. k) r.answer; set = set_of r.set }

unfoldable pub handed : Handed → calls.Handed
handed r = record { refused = verdict r.answer; set = set_of r.set }
