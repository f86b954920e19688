-- `numbers::one_kind` meets its contract: the code and the definition compare the same numbers in the same order.
use mathlib.Core.Path.{refl}
use Rattle.pinning.specs.Numbers.{one_kind}
use Rattle.numbers.proofs.one_kind.Goals as goal

pub returns : goal.returns
unfolding one_kind
returns c = refl
