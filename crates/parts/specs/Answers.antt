-- What the structs and answers of this crate mean in the terms of `model`, case by case.
use Rattle.std.specs.Prelude.{ℕ, Result, Ok, Err}
use Rattle.model.specs.Admissible as model_violation
use Rattle.model.specs.Step as model_step
use Rattle.parts.specs.declared.Violation.{Violation}
use Rattle.parts.specs.declared.Violation.TheVariants as v
use Rattle.parts.specs.declared.Drained.{Drained}

-- the violations in the model's words, the buckets counted from 0
unfoldable pub violation : Violation → model_violation.Violation
violation v.DecoderOverflow = model_violation.decoder_overflow
violation v.DecoderUnderflow = model_violation.decoder_underflow
violation v.BucketOverflow = model_violation.bucket_overflow 0
violation v.SecondOverflow = model_violation.bucket_overflow 1
violation v.PinNotHeld = model_violation.pin_not_held

unfoldable pub decoded : Result ℕ Violation → model_violation.Decoded
decoded (Ok n) = model_violation.holds n
decoded (Err x) = model_violation.breaks (violation x)

unfoldable pub drained : Drained → model_step.Drained
drained x = record { level = x.level; unused = x.unused }
