-- `enlarge::total_between` meets its contract.
use Rattle.enlarge.proofs.Listing.{told}
use Rattle.enlarge.proofs.total_between.Goals as goal

pub returns : goal.returns
returns c =
    told _ _ _ _ _ _ c.requires.0 _ _ _ c.least_total.ensures
