-- `header::Header::buckets_fit` meets its contract: the first bucket, then the second where there is one.
use Rattle.header.specs.Answers.{plain}
use Rattle.header.proofs.Verdicts.{one_fits, two_fit}
use Rattle.header.proofs.Header.buckets_fit.Goals as goal

pub returns-in-None : goal.returns-in-None
unfolding plain
returns-in-None c = rw c.in-None.is (one_fits _ c.fits-first.ensures)

pub returns-in-Some : goal.returns-in-Some
unfolding plain
returns-in-Some c = rw c.in-Some.is (two_fit _ _ c.fits-first.ensures c.fits.ensures)
