-- A choice as it was read from the job, and among the prices.
use Prim.Native.Nat.{ℕ, ◌+◌, ◌<◌}
use mathlib.Core.Path.{◌≡◌, refl, ap}
use mathlib.Core.Bool.{Bool, true, false, ◌&&◌}
use mathlib.Core.Option.{Option, none, some}
use mathlib.Core.List.{List}
use native.Mathlib.Omega.{arith}
use borrow.Author.Tests.{eq-eqb, ne_eqb}
use Rattle.trellis.specs.Limit.{keeps_to, only}
use Rattle.std.specs.Prelude.{if◌then◌else◌}
use Rattle.model.specs.Job as model
use Rattle.model.specs.Step.{pin_held}
use Rattle.format.specs.Choices.{choice_of}
use Rattle.format.specs.JobBytes.{Header}
use Rattle.format.specs.Places.{coding_at}
use Rattle.header.specs.declared.Coding.{Coding}
use Rattle.header.specs.Answers.{coding_of}
use Rattle.decoder.specs.Answers.{coding_if}
use Rattle.planning.specs.Prices.{price_at}
use Rattle.block.specs.Blocks.{Lowered, LeastOf}
use Rattle.block.proofs.Blocks.{least_more}
use Rattle.table.specs.declared.Choices.{Choices}
use Rattle.line.specs.declared.Candidate.{Candidate}
use Rattle.line.specs.Answers.{candidate_is}
use Rattle.table.specs.Answers.{limit_of, allowed_is, ChoicesFit, CandidateOf}

-- two tests at once, and one after the other
both : (p q : Bool) (k : Option model.Coding) → (if p && q then k else none) ≡ (if p then only q k else none)
unfolding only ◌&&◌
both true true k = refl
both true false k = refl
both false q k = refl

module _ (b : List ℕ) (h : Header) (c : Choices) (x : ℕ) where
  -- without a unit
  pub nothing_read : c.unit ≡ 0 → CandidateOf b h c x (record { free = true; size = 0; distortion = 0 })
  unfolding candidate_is coding_if allowed_is
  nothing_read u = record { is = rw (eq-eqb c.unit 0 u) refl; small = omega arith }

  -- of a unit
  pub coding_read : ChoicesFit b h c → x < c.count → (c.unit ≡ 0 → ⊥) → (held kept : Bool) (k : Coding) → held ≡ pin_held (choice_of c.pin) (choice_of x) → kept ≡ keeps_to (limit_of c.limit) k.distortion → coding_of k ≡ coding_at b h c.unit x → CandidateOf b h c x (record { free = held && kept; size = k.size; distortion = k.distortion })
  unfolding candidate_is coding_if allowed_is coding_of
  coding_read g l n held kept k p q e = record {
    is = rw (ne_eqb c.unit 0 n, p, q, ← e) (both (pin_held (choice_of c.pin) (choice_of x)) (keeps_to (limit_of c.limit) k.distortion) (some (record { size = k.size; distortion = k.distortion })));
    small = let q : k.distortion ≡ (coding_at b h c.unit x).distortion = ap (λ (y : model.Coding). y.distortion) e in omega (arith, q, g.small n x l);
  }

-- one choice more among the prices
pub price_more : (b : List ℕ) (h : Header) (c : Choices) (n : ℕ) (old new : List ℕ) (x : Candidate) → LeastOf 256 n (λ r x. price_at r (allowed_is b h c x)) old → CandidateOf b h c n x → Lowered 256 (λ r. price_at r (coding_if x.free x.size x.distortion)) old new → LeastOf 256 (n + 1) (λ r x. price_at r (allowed_is b h c x)) new
unfolding candidate_is
price_more b h c n old new x a e l = least_more 256 n (λ r x. price_at r (allowed_is b h c x)) old new a (rw e.is at l)
