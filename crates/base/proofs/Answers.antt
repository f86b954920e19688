-- A refusal is no other answer, and an answer has one number or value.
use Prim.Native.Nat.{ℕ}
use mathlib.Core.Path.{◌≡◌}
use native.Mathlib.Omega.{arith}
use Rattle.base.specs.Answer.{Answer, refused, gives}

pub not_refused : {A : Type 0} {n : ℕ} {a : A} → gives a ≡ refused n → ⊥
not_refused e = let z : ◌≡◌ {A = ℕ} 0 1 = cc in omega arith

pub refused_same : {A : Type 0} {n k : ℕ} → ◌≡◌ {A = Answer A} (refused n) (refused k) → n ≡ k
refused_same e = cc

pub gives_same : {A : Type 0} {a b : A} → ◌≡◌ {A = Answer A} (gives a) (gives b) → a ≡ b
gives_same e = cc
