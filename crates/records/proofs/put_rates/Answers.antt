-- `records::put_rates` meets its contract: the head, then the rates.
use Rattle.format.specs.JobBytes.{rates_form}
use Rattle.format.proofs.Records.{total_same}
use Rattle.records.proofs.Records.{put_record}
use native.Mathlib.Omega.{arith}
use lib.ListN.{length}
use Rattle.records.proofs.put_rates.Goals as goal

pub returns : goal.returns
unfolding rates_form
returns c =
    let n = length c.args.rates.now in
    put_record (rates_form n) _ _ _ _ _ _ (omega (arith, total_same n 2)) c.put_numbers.ensures c.put_numbers-2.ensures
