-- `decoder::no_prices` meets its contract.
use mathlib.Core.Path.{refl}
use Rattle.decoder.specs.Answers.{no_prices}
use Rattle.decoder.proofs.no_prices.Goals as goal

pub returns : goal.returns
unfolding no_prices
returns c = refl
