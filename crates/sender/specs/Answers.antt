-- What the structs of this crate mean in the terms of `model`, and what its functions ask.
use Rattle.std.specs.Prelude.{◌≤◌, ◌≡◌, [], ◌∷◌, length, take}
use Rattle.model.specs.Job as model
use Rattle.sender.specs.declared.Bucket.{Bucket}
use Rattle.sender.specs.declared.Line.{Line}

unfoldable pub bucket_is : Bucket → model.Bucket
bucket_is k = record { size = k.size; drain = k.drain }

-- a line of two buckets, the outer first
unfoldable pub line_is : Line → model.Line
line_is l = record {
  decoder = l.decoder;
  buckets = bucket_is l.outer ∷ bucket_is l.inner ∷ [];
  rates = take l.count l.rates;
}

-- the limits of a line, and its array of rates
pub record LineFits (l : Line) : Type 0 where
  pub decoder : l.decoder ≤ 255
  pub outer : l.outer.size ≤ 255
  pub inner : l.inner.size ≤ 255
  pub rates : l.count ≤ 16
  pub size : length l.rates ≡ 16
