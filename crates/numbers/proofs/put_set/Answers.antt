-- `numbers::put_set` meets its contract: header, pins and totals, each behind the one before.
use mathlib.Core.Path.{◌≡◌, ◌∙◌, ap}
use lib.ListN.{length}
use borrow.Author.Rules.{rules}
use Rattle.base.specs.Lent.{over_at}
use Rattle.pinset.specs.Answers.{set_of}
use Rattle.numbers.proofs.Laying.{set_laid}
use Rattle.numbers.proofs.put_set.Goals as goal

pub returns : goal.returns
unfolding set_of
returns c =
    -- the set's array has its length
    let size : length c.args.set.pins ≡ 512 = search rules in
    c.put_totals.ensures ∙ ap (over_at 525 _) (c.put_pins.ensures ∙ ap (over_at 13 _) c.put_header.ensures) ∙ set_laid (set_of c.args.set) c.args.list.now size
