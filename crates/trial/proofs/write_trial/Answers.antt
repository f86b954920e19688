-- `trial::write_trial` meets its contract: refused, or the header, the rates and the units one behind another.
use Rattle.trial.proofs.Drawing.{part_long}
use Rattle.trial.proofs.Answering.{trial_refused, trial_accepted, room_there, trial_done}
use Rattle.trials.specs.Calls.{trial_rates, trial_sizes, trial_distortions}
use Rattle.writing.proofs.Order.{Accepted}
use Rattle.writer.specs.Answers.{wrote_answer, wrote}
use Rattle.header.specs.Answers.{plain}
use Rattle.header.proofs.Told.{handed}
use Rattle.header.specs.declared.refusal.Refusal.{Refusal}
use Rattle.std.specs.Prelude.{Result}
use Rattle.header.proofs.Fields.{small_size}
use Rattle.format.specs.Places.{job_size}
use Rattle.base.specs.Answer.{gives}
use Rattle.std.proofs.Common.{ℕ, ◌≤◌, length, replicate, ap, ◌∙◌, arith}
use Rattle.trial.proofs.write_trial.Goals as goal

pub returns-in_err-trial_refusal : goal.returns-in_err-trial_refusal
unfolding wrote
returns-in_err-trial_refusal c = ap (λ (r : Result ℕ Refusal). record { answer = wrote_answer r; list = c.args.out.now }) (handed _ _ c.from_residual.ensures) ∙ trial_refused _ _ _ _ c.in_err-trial_refusal.ensures

pub overflow_add-units-2 : goal.overflow_add-units-2
overflow_add-units-2 c = omega (arith, small_size _ _ c.record_size-front.ensures)

pub put_header-requires : goal.put_header-requires
unfolding plain
put_header-requires c =
    let ok : let a = c.args in Accepted (plain a.header) (trial_rates (plain a.header) a.state) (trial_sizes (plain a.header) a.state) (trial_distortions (plain a.header) a.state) × (job_size (plain a.header) ≤ length a.out.now) = let a = c.args in (trial_accepted _ _ a.out.now c.in_ok-trial_refusal.ensures, room_there _ a.state a.out.now c.in_ok-trial_refusal.ensures) in
    let k = ok in omega (arith, k.1)

pub slice_bounds-rates-end : goal.slice_bounds-rates-end
unfolding plain
slice_bounds-rates-end c =
    let ok : let a = c.args in Accepted (plain a.header) (trial_rates (plain a.header) a.state) (trial_sizes (plain a.header) a.state) (trial_distortions (plain a.header) a.state) × (job_size (plain a.header) ≤ length a.out.now) = let a = c.args in (trial_accepted _ _ a.out.now c.in_ok-trial_refusal.ensures, room_there _ a.state a.out.now c.in_ok-trial_refusal.ensures) in
    let k = ok in omega (arith, k.0.header)

pub put_drawn_rates-drawn-requires : goal.put_drawn_rates-drawn-requires
unfolding plain
put_drawn_rates-drawn-requires c =
    let ok : let a = c.args in Accepted (plain a.header) (trial_rates (plain a.header) a.state) (trial_sizes (plain a.header) a.state) (trial_distortions (plain a.header) a.state) × (job_size (plain a.header) ≤ length a.out.now) = let a = c.args in (trial_accepted _ _ a.out.now c.in_ok-trial_refusal.ensures, room_there _ a.state a.out.now c.in_ok-trial_refusal.ensures) in
    let k = ok in
    let s = part_long (replicate 16 0) c.args.header.rates (omega (arith, k.0.header)) in
    (omega (arith, k.0.header), omega (arith, s, k.1, c.record_size-front.ensures))

pub put_drawn_units-requires : goal.put_drawn_units-requires
unfolding plain
put_drawn_units-requires c =
    let ok : let a = c.args in Accepted (plain a.header) (trial_rates (plain a.header) a.state) (trial_sizes (plain a.header) a.state) (trial_distortions (plain a.header) a.state) × (job_size (plain a.header) ≤ length a.out.now) = let a = c.args in (trial_accepted _ _ a.out.now c.in_ok-trial_refusal.ensures, room_there _ a.state a.out.now c.in_ok-trial_refusal.ensures) in
    let k = ok in
    (k.0.header, omega (arith, k.1, c.record_size-front.ensures))

pub returns : goal.returns
unfolding wrote plain
returns c =
    let ok : let a = c.args in Accepted (plain a.header) (trial_rates (plain a.header) a.state) (trial_sizes (plain a.header) a.state) (trial_distortions (plain a.header) a.state) × (job_size (plain a.header) ≤ length a.out.now) = let a = c.args in (trial_accepted _ _ a.out.now c.in_ok-trial_refusal.ensures, room_there _ a.state a.out.now c.in_ok-trial_refusal.ensures) in
    let k = ok in
    let s = part_long (replicate 16 0) c.args.header.rates (omega (arith, k.0.header)) in
    ap (λ (n : ℕ). record { answer = gives n; list = c.put_drawn_units.new.out }) c.job_size-size.ensures
    ∙ trial_done _ _ _ c.in_ok-trial_refusal.ensures _ c.record_size-front.ensures _ _ _ c.put_header.ensures (c.put_drawn_rates-drawn.ensures.0 ∙ rw s) (c.put_drawn_units.ensures ∙ rw (c.put_drawn_rates-drawn.ensures.1, s))
