-- `pinset::same_totals` meets its contract: the three totals are compared in their order.
use Rattle.pinning.proofs.Agree.{totals_differ_count, totals_differ_size, totals_by_distortion}
use Rattle.pinset.specs.Answers.{set_of, tallied}
use borrow.Author.Rules.{rules}
use Rattle.pinset.proofs.same_totals.Goals as goal

pub returns-then-set-sum : goal.returns-then-set-sum
unfolding set_of tallied
returns-then-set-sum c = totals_differ_count _ _ c.if-set-sum.true

pub returns-then-set-sum-2 : goal.returns-then-set-sum-2
unfolding set_of tallied
returns-then-set-sum-2 c = totals_differ_size _ _ (search rules) c.if-set-sum-2.true

pub returns : goal.returns
unfolding set_of tallied
returns c = totals_by_distortion _ _ (search rules) (search rules)
