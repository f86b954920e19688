-- `records::put_unit` meets its contract.
use Rattle.format.specs.JobBytes.{unit_form, unit_bytes}
use Rattle.format.proofs.Records.{total_entries}
use Rattle.records.proofs.Records.{put_record}
use native.Mathlib.Omega.{arith}
use lib.ListN.{length}
use Rattle.records.proofs.put_unit.Goals as goal

pub returns : goal.returns
unfolding unit_bytes unit_form
returns c =
    let m = length c.args.sizes.now in
    put_record (unit_form m) _ _ _ _ _ _ (omega (arith, total_entries m)) c.put_numbers.ensures c.put_codings.ensures
