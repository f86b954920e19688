-- `see::see` meets its contract.
use mathlib.Core.Path.{◌≡◌, sym, ◌∙◌, ap}
use native.Mathlib.Omega.{arith}
use lib.ListN.{length}
use Rattle.std.specs.Prelude.{Result}
use Rattle.header.specs.declared.refusal.Refusal.{Refusal}
use Rattle.header.specs.Answers.{verdict}
use Rattle.pins.specs.Answers.{handed}
use Rattle.pinset.specs.Answers.{set_of}
use Rattle.see.specs.Answers.{seen}
use Rattle.see.proofs.Seeing.{see_refused, taken, short_seen, renews, word_seen}
use borrow.Author.Rules.{rules}
use Rattle.see.proofs.see.Goals as goal

pub returns-then-table-table_words : goal.returns-then-table-table_words
unfolding handed seen set_of
returns-then-table-table_words c k named e =
    let n : (length c.args.set.pins ≡ 512) × (length c.args.made.set.pins ≡ 512) = (search rules, search rules) in
    let done = ap (λ (x : Result (Unit {0}) Refusal). record { refused = verdict x; set = set_of c.args.made.set }) (sym c.in-Ok.is) ∙ e in
    short_seen _ _ k _ (taken _ _ k _ done) n.0 n.1 _ named _ (omega (arith, c.table_words.ensures, c.if-table-table_words.true))

pub renew-requires : goal.renew-requires
unfolding handed set_of
renew-requires c =
    let n : (length c.args.set.pins ≡ 512) × (length c.args.made.set.pins ≡ 512) = (search rules, search rules) in
    let done = ap (λ (x : Result (Unit {0}) Refusal). record { refused = verdict x; set = set_of c.args.made.set }) (sym c.in-Ok.is) ∙ c.requires.is in
    renews _ _ c.requires.made _ (taken _ _ c.requires.made _ done) n.0 n.1 _ c.requires.unit _ (omega (arith, c.table_words.ensures, c.if-table-table_words.false))

pub returns-in-Err : goal.returns-in-Err
unfolding handed seen set_of
returns-in-Err c k named e =
    see_refused _ _ k _ _ _ (ap (λ (x : Result (Unit {0}) Refusal). record { refused = verdict x; set = set_of c.args.made.set }) (sym c.in-Err.is) ∙ e)

pub returns-else-table-table_words : goal.returns-else-table-table_words
unfolding handed seen set_of
returns-else-table-table_words c k named e =
    let n : (length c.args.set.pins ≡ 512) × (length c.args.made.set.pins ≡ 512) = (search rules, search rules) in
    let done = ap (λ (x : Result (Unit {0}) Refusal). record { refused = verdict x; set = set_of c.args.made.set }) (sym c.in-Ok.is) ∙ e in
    word_seen _ _ k _ (taken _ _ k _ done) n.0 n.1 _ named _ (omega (arith, c.table_words.ensures, c.if-table-table_words.false)) _ _ c.renew.ensures
