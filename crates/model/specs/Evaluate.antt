-- To unfold `evaluate` is to unfold all that the definitions compute through: for a worked example.
use mathlib.Core.List.{zip_with}
use Rattle.trellis.specs.Trellis.{computes}
use Rattle.trellis.specs.Limit.{keeps_to, only, limited}
use Rattle.trellis.specs.Pairs.{row, rows}
use Rattle.model.specs.Job.{intervals, job_coding, coding, sends, takes, distorts}
use Rattle.model.specs.Levels.{entry_of, sent, taken, distorted, decoder_level, decoder_peak, bucket_level, bucket_levels, unused_drain, unused_totals, sent_after, effective_buffer, units_taken, effective_buffers}
use Rattle.base.specs.Lists.{build, gathered}
use Rattle.model.specs.Pins.{no_pins, mapped_pin, outside, note_pin, note_lift, note, pins_after, answers, with_line, totals_to, pin_totals, pin_at}
use Rattle.model.specs.Admissible.{verify, ending}
use Rattle.model.specs.Step.{decoder_step, bucket_step, after_decoder, after_sending, overfull, same_choice, pin_held, or_overflow, outcome_of, outcome}
use Rattle.model.specs.Replay.{total_distortion, greatest_distortion, totals, written, go_on, replay, last_levels}
use Rattle.model.specs.Best.{turn, pairs, entry, width, entries, reached, all_walks, trellis_of, least_by, best_plan, open_for}
use Rattle.model.specs.Table.{tops, flat, span, place, levels_at, state_at, words, word_at, layer_of, word_in}

unfoldable pub evaluate : Unit {0}
unfolding zip_with computes keeps_to only limited row rows intervals job_coding coding sends takes distorts gathered entry_of sent taken distorted decoder_level decoder_peak bucket_level bucket_levels unused_drain unused_totals sent_after effective_buffer units_taken build effective_buffers no_pins mapped_pin outside note_pin note_lift note pins_after answers with_line totals_to pin_totals pin_at verify ending decoder_step bucket_step after_decoder after_sending overfull same_choice pin_held or_overflow outcome_of outcome total_distortion greatest_distortion totals written go_on replay last_levels turn pairs entry width entries reached all_walks trellis_of least_by best_plan open_for tops flat span place levels_at state_at words word_at layer_of word_in
evaluate = tt
