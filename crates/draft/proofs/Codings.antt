-- Codings tested some at a time.
use Prim.Native.Nat.{ℕ, ◌+◌, ◌<◌}
use mathlib.Core.Path.{◌≡◌, sym, ◌∙◌}
use mathlib.Core.Bool.{Bool, true, false, ◌&&◌}
use mathlib.Core.Option.{Option, some}
use mathlib.Core.List.{List}
use lib.ListN.{length, get_or}
use Rattle.std.specs.Prelude.{if◌then◌else◌}
use Rattle.model.specs.Job.{Coding, nothing}
use Rattle.format.specs.Limits.{both_kept}
use Rattle.format.specs.JobBytes.{size_limit, distortion_limit}
use Rattle.format.proofs.Left.{codings_left, codings_step, codings_here}

-- one coding more
pub tested_more : (cs : List Coding) (o : Option ℕ) (x : ℕ) → x < length cs → (s d : ℕ) → get_or cs x nothing ≡ record { size = s; distortion = d } → (fit r : Bool) → r ≡ both_kept (size_limit s) (distortion_limit d) → o ≡ (if fit then codings_left cs x else some 5) → o ≡ (if fit && r then codings_left cs (x + 1) else some 5)
tested_more cs o x h s d e false r k q = q
tested_more cs o x h s d e true true k q = q ∙ codings_step cs x h s d e (sym k)
tested_more cs o x h s d e true false k q = q ∙ codings_here cs x h s d e (sym k)
