-- `records::put_header` meets its contract: with one bucket the nine fields are all, with two the second's follow.
use Rattle.records.proofs.Records.{put_one, two_size, put_two}
use native.Mathlib.Omega.{arith}
use Rattle.records.proofs.put_header.Goals as goal

pub put_numbers-requires : goal.put_numbers-requires
put_numbers-requires c = omega (arith, two_size c.args.header _ c.in-Some.is, c.requires)

pub returns-in-None : goal.returns-in-None
returns-in-None c = put_one _ _ _ c.in-None.is c.put_nine.ensures

pub returns-in-Some : goal.returns-in-Some
returns-in-Some c = put_two _ _ _ _ _ c.in-Some.is c.put_nine-in-Some.ensures c.put_numbers.ensures
