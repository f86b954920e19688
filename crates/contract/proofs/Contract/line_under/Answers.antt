-- `contract::Contract::line_under` meets its contract: the rates are copied, and the buckets read are the contract's.
use mathlib.Core.Path.{sym, ap, ◌∙◌}
use native.Mathlib.Omega.{arith}
use lib.Seq.{length-take-le}
use Rattle.format.specs.JobBytes.{bucket_of}
use Rattle.contract.proofs.Lines.{rates_first, counted, line_made}
use Rattle.contract.proofs.Contract.line_under.Goals as goal

pub slice_bounds-list-end : goal.slice_bounds-list-end
slice_bounds-list-end c = (counted _ _ _ _ c.requires).few

pub slice_bounds-copy_from_slice-end : goal.slice_bounds-copy_from_slice-end
slice_bounds-copy_from_slice-end c = sym (length-take-le _ _ (counted _ _ _ _ c.requires).few)

pub copy_from_slice-requires : goal.copy_from_slice-requires
copy_from_slice-requires c = length-take-le _ _ (counted _ _ _ _ c.requires).few

pub bucket_at-requires : goal.bucket_at-requires
bucket_at-requires c = let t = counted _ _ _ _ c.requires in
    (omega (arith, t.sizes_count), omega (arith, t.drains_count))

pub second-requires : goal.second-requires
second-requires c = let t = counted _ _ _ _ c.requires in
    rw c.is_some.ensures (t.sizes_count, t.drains_count)

pub returns : goal.returns
returns c =
    let l = rates_first _ _ _ c.copy_from_slice.ensures.after (counted _ _ _ _ c.requires).few in
    line_made _ _ _ _ _ _ _ c.requires (c.of.ensures ∙ ap bucket_of c.bucket_at.ensures) c.second.ensures l.0 l.1
