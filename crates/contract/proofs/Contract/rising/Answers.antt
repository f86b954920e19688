-- `contract::Contract::rising` meets its contract: no limit is broken exactly where each is kept.
use mathlib.Core.Path.{◌≡◌, sym, ◌∙◌}
use mathlib.Core.List.{List}
use Rattle.std.specs.Prelude.{Ok, Err, is_ok}
use Rattle.format.specs.Limits.{Limit, each_kept, broken}
use Rattle.format.proofs.Limits.{not_some, none_broken, all_kept, fit_all, not_all}
use Rattle.header.specs.Answers.{verdict}
use Rattle.header.proofs.Told.{Verdict}
use Rattle.contract.proofs.Contract.rising.Goals as goal

tells : (v : Verdict) (ls : List Limit) → verdict v ≡ broken ls → is_ok v ≡ each_kept ls
tells (Ok u) ls b = fit_all ls (all_kept ls (sym b))
tells (Err r) ls b = not_all ls (λ h. not_some (b ∙ none_broken ls h))

pub returns : goal.returns
returns c = c.is_ok.ensures.value ∙ tells _ _ c.rates_verdict.ensures
