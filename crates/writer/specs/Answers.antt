-- What the writer's answers mean in the terms of the crates below, case by case.
use Rattle.std.specs.Prelude.{ℕ, List, Result}
use Rattle.base.specs.Answer.{Answer}
use Rattle.base.specs.Lent.{Ended}
use Rattle.header.specs.declared.refusal.Refusal.{Refusal}
use Rattle.header.specs.Answers.{answer_by}

-- how many bytes the job took, or the refusal's number
abbrev pub wrote_answer : Result ℕ Refusal → Answer ℕ
wrote_answer = answer_by (λ n. n)

unfoldable pub wrote : Result ℕ Refusal → List ℕ → Ended ℕ
wrote r out = record { answer = wrote_answer r; list = out }
