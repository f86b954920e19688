-- `reader::read_on` meets its contract: 12 where a list is too short, else each list by the function that fills it.
use mathlib.Core.Path.{sym, ◌∙◌}
use lib.ListN.{length}
use Rattle.header.specs.Answers.{plain}
use Rattle.reader.proofs.Answering.{Room, has_room, back_12, back_done}
use Rattle.reader.proofs.read_on.Goals as goal

pub returns-then-not-room : goal.returns-then-not-room
returns-then-not-room c =
    back_12 _ _ _ _ _ _ _ c.requires (sym c.room.ensures ∙ c.if-not-room.true) _

pub put_fields-requires : goal.put_fields-requires
put_fields-requires c =
    -- there is room
    let roomed : Room (plain c.args.header) (length c.args.fields.now) (length c.args.rates.now) (length c.args.sizes.now) (length c.args.distortions.now) (length c.args.values.now) = has_room _ _ _ _ _ _ (sym c.room.ensures ∙ c.if-not-room.false) in
    roomed.for_fields

pub put_rates-requires : goal.put_rates-requires
unfolding plain
put_rates-requires c =
    -- there is room
    let roomed : Room (plain c.args.header) (length c.args.fields.now) (length c.args.rates.now) (length c.args.sizes.now) (length c.args.distortions.now) (length c.args.values.now) = has_room _ _ _ _ _ _ (sym c.room.ensures ∙ c.if-not-room.false) in
    (c.requires, roomed.for_rates)

pub put_codings-requires : goal.put_codings-requires
unfolding plain
put_codings-requires c =
    -- there is room
    let roomed : Room (plain c.args.header) (length c.args.fields.now) (length c.args.rates.now) (length c.args.sizes.now) (length c.args.distortions.now) (length c.args.values.now) = has_room _ _ _ _ _ _ (sym c.room.ensures ∙ c.if-not-room.false) in
    (c.requires, roomed.for_sizes, roomed.for_distortions)

pub put_values-requires : goal.put_values-requires
put_values-requires c =
    -- there is room
    let roomed : Room (plain c.args.header) (length c.args.fields.now) (length c.args.rates.now) (length c.args.sizes.now) (length c.args.distortions.now) (length c.args.values.now) = has_room _ _ _ _ _ _ (sym c.room.ensures ∙ c.if-not-room.false) in
    roomed.for_values

pub returns : goal.returns
returns c =
    back_done _ _ _ _ _ _ _ c.requires (sym c.room.ensures ∙ c.if-not-room.false) _ _ _ _ _ _ c.put_fields.ensures c.put_rates.ensures c.put_codings.ensures.0 c.put_codings.ensures.1 c.put_values.ensures
