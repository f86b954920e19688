-- What the list of larger buckets with a set as numbers answers and leaves, from what the call within it answered.
use Prim.Native.Nat.{ℕ}
use mathlib.Core.Path.{◌≡◌, ◌∙◌, ap}
use mathlib.Core.List.{List}
use Rattle.std.specs.Prelude.{Result, Ok, Err}
use Rattle.header.specs.declared.refusal.Refusal.{Refusal}
use Rattle.header.specs.Refusals.{number, code}
use Rattle.pinning.specs.PinSet.{PinSet}
use Rattle.pinning.specs.Numbers.{set_in}
use Rattle.enlarging.specs.Calls.{sizes_call}
use Rattle.enlarge.specs.Answers as enlarge
use Rattle.exporting.specs.Exports.{number_of}
use Rattle.exporting.specs.Larger.{listed, after_list, sizes_export}

module _ (job l : List ℕ) (own : PinSet) (named : own ≡ set_in l) (table totals : List ℕ) where
  pub list_told : (x : Result (Unit {0}) Refusal) (new_table new_totals : List ℕ) → enlarge.listed x new_table new_totals ≡ sizes_call job own table totals → listed (code x) new_table new_totals ≡ sizes_export job l table totals
  list_told x t u i = numbered x ∙ ap after_list i ∙ ap (λ (s : PinSet). after_list (sizes_call job s table totals)) named
    where
      numbered : (x : Result (Unit {0}) Refusal) → listed (code x) t u ≡ after_list (enlarge.listed x t u)
      numbered (Ok o) = unfold enlarge.listed after_list number_of in (λ _. listed 0 t u)
      numbered (Err r) = unfold enlarge.listed after_list number_of in (λ _. listed (number r) t u)
