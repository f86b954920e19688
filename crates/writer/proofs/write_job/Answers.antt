-- `writer::write_job` meets its contract: refused, or the header, the rates and the units one behind another.
use Rattle.header.proofs.Fields.{small_size}
use Rattle.writer.proofs.Answering.{write_refused, write_accepted, write_room, write_done}
use Rattle.writing.proofs.Order.{Accepted}
use Rattle.format.specs.Places.{job_size}
use Rattle.base.specs.Answer.{gives}
use Prim.Native.Nat.{ℕ, ◌≤◌}
use mathlib.Core.Path.{◌∙◌, ap}
use lib.ListN.{length}
use Rattle.writer.specs.Answers.{wrote_answer, wrote}
use native.Mathlib.Omega.{arith}
use Rattle.header.specs.Answers.{plain}
use Rattle.header.proofs.Told.{handed}
use Rattle.header.specs.declared.refusal.Refusal.{Refusal}
use Rattle.std.specs.Prelude.{Result}
use Rattle.writer.proofs.write_job.Goals as goal

pub returns-in_err-write_refusal : goal.returns-in_err-write_refusal
unfolding wrote
returns-in_err-write_refusal c = ap (λ (r : Result ℕ Refusal). record { answer = wrote_answer r; list = c.args.out.now }) (handed _ _ c.from_residual.ensures) ∙ write_refused _ _ _ _ _ _ c.in_err-write_refusal.ensures

pub overflow_add-units-2 : goal.overflow_add-units-2
overflow_add-units-2 c = omega (arith, small_size _ _ c.record_size-front.ensures)

pub put_header-requires : goal.put_header-requires
unfolding plain
put_header-requires c =
    let ok : let a = c.args in Accepted (plain a.header) a.rates.now a.sizes.now a.distortions.now × (job_size (plain a.header) ≤ length a.out.now) = let a = c.args in (write_accepted _ _ _ _ a.out.now c.in_ok-write_refusal.ensures, write_room _ a.rates.now a.sizes.now a.distortions.now a.out.now c.in_ok-write_refusal.ensures) in
    let k = ok in omega (arith, k.1)

pub put_rates-requires : goal.put_rates-requires
unfolding plain
put_rates-requires c =
    let ok : let a = c.args in Accepted (plain a.header) a.rates.now a.sizes.now a.distortions.now × (job_size (plain a.header) ≤ length a.out.now) = let a = c.args in (write_accepted _ _ _ _ a.out.now c.in_ok-write_refusal.ensures, write_room _ a.rates.now a.sizes.now a.distortions.now a.out.now c.in_ok-write_refusal.ensures) in
    let k = ok in omega (arith, k.0.header, k.0.lengths, k.1, c.record_size-front.ensures)

pub put_units-requires : goal.put_units-requires
unfolding plain
put_units-requires c =
    let ok : let a = c.args in Accepted (plain a.header) a.rates.now a.sizes.now a.distortions.now × (job_size (plain a.header) ≤ length a.out.now) = let a = c.args in (write_accepted _ _ _ _ a.out.now c.in_ok-write_refusal.ensures, write_room _ a.rates.now a.sizes.now a.distortions.now a.out.now c.in_ok-write_refusal.ensures) in
    let k = ok in
    let a = k.0 in
    (a.header, omega (arith, a.lengths), omega (arith, a.lengths), omega (arith, a.lengths, k.1, c.record_size-front.ensures))

pub returns : goal.returns
unfolding wrote plain
returns c =
    ap (λ (n : ℕ). record { answer = gives n; list = c.put_units.new.out }) c.job_size-size.ensures
    ∙ write_done _ _ _ _ _ c.in_ok-write_refusal.ensures _ c.record_size-front.ensures _ _ _ c.put_header.ensures c.put_rates.ensures c.put_units.ensures
