-- The cases of playlists, computed.
use mathlib.Core.Path.{refl}
use Rattle.trellis.specs.Table.{encode}
use Rattle.model.specs.Evaluate.{evaluate}
use Rattle.base.specs.Evaluate as base
use Rattle.base.specs.Lent.{over, over_at}
use Rattle.format.specs.Choices.{choice_under, choice_number}
use Rattle.format.specs.Limits.{kept}
use Rattle.format.specs.JobBytes.{computes, same_header}
use Rattle.format.specs.JobA.{bytes_a, bytes_a8}
use Rattle.format.specs.Parser.{on_read, on_took}
use Rattle.pinning.specs.PinSet.{lines, unpinned, fresh}
use Rattle.pinning.specs.Check.{pin_fits, pins_fit, same_totals, fits, accept, checked}
use Rattle.replaying.specs.Entries.{one_entry, entry_bytes, entry_fields, rate_field, choice_field, entry_under, entry_at, entries_from}
use Rattle.planning.specs.Words.{layer, layers, table_from}
use Rattle.planning.specs.Calls as c
use Rattle.starting.specs.Calls.{levels_fit, start_with, level_tests, plan_with, levels_call}
use Rattle.playlists.specs.Calls as p
use Rattle.cases.specs.Playlists.{heard, listen_with, PlaylistCases}

pub playlist_cases : PlaylistCases
unfolding base.evaluate evaluate computes on_read on_took choice_under choice_number kept same_header bytes_a bytes_a8 lines unpinned fresh pin_fits pins_fit same_totals fits accept checked one_entry entry_bytes entry_fields rate_field choice_field entry_under entry_at entries_from encode over over_at layer layers table_from c.refuse c.searched c.search_in c.plan_tests levels_fit start_with level_tests plan_with levels_call p.programmes p.part p.at_first p.starting p.led_to p.five p.as_many p.behind_tests p.after p.rest_of p.plan_part p.plan_turn p.part_turn p.turn p.ended p.onward p.play p.is_list p.playlist_call heard listen_with
playlist_cases = record { both = refl; overlap = refl; passes = refl; behind = refl; no_room = refl; short_totals = refl; shorter_totals = refl; both_short = refl; own_level = refl; just_fits = refl; just_over = refl; other_buckets = refl; short_table = refl; none_at_all = refl; odd = refl }
