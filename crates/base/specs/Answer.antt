-- What a call answers, in the papers' terms: the number of a refusal, or the values given (document 01, "Where each refusal is checked").
use Rattle.std.specs.Prelude.{ℕ}

pub data Answer (A : Type 0) : Type 0 where
  refused : ℕ → Answer A
  gives : A → Answer A
