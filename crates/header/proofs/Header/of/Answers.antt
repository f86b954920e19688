-- `header::Header::of` meets its contract: nine fields and those of a second bucket make a header.
use Rattle.header.specs.Answers.{plain, policed_of}
use Rattle.header.proofs.Fields.{header_made}
use Rattle.header.proofs.Header.of.Goals as goal

pub returns : goal.returns
unfolding plain policed_of
returns c = header_made _ _ _ c.u16_at.ensures c.u16_at-2.ensures c.u16_at-3.ensures c.u16_at-5.ensures c.u16_at-6.ensures c.u16_at-4.ensures c.u16_at-7.ensures c.u16_at-8.ensures c.u16_at-9.ensures c.second_in.ensures
