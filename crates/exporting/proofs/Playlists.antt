-- The exported playlist is refused in the order of the list's own conditions, and else is the run of its programmes: `Playlists`.
use Prim.Native.Nat.{ℕ, ◌+◌, ◌*◌, ◌≤◌, ◌/◌, ◌%◌}
use mathlib.Core.Path.{◌≡◌, refl, ap}
use mathlib.Core.Option.{none}
use mathlib.Core.List.{List, [], ◌∷◌}
use native.Mathlib.Omega.{arith}
use lib.ListN.{length}
use Rattle.base.specs.Refusals.{condition}
use Rattle.playlists.specs.Calls as playlists
use Rattle.playlists.specs.Calls.{programmes, refused_list, playlist_call}
use Rattle.playlists.specs.Claims.{IsList, Run}
use Rattle.playlists.proofs.Playlists.{run_numbers, playlist_calls}
use Rattle.exporting.specs.Playlists.{told, playlisted, after_list, Playing, Playlists}
use Rattle.exporting.proofs.Exports.{in_order_through}

-- place and number, told from one number
apart : (place n r : ℕ) → r ≡ 256 * place + n → n ≤ 22 → (r % 256 ≡ n) × (r / 256 ≡ place)
apart place n r e h = (omega (arith, e), omega (arith, e))

refusal_shown : (table entries totals : List ℕ) (n : ℕ) → after_list (record { answer = refused_list n; table = table; entries = entries; totals = totals }) ≡ playlisted n table entries totals
unfolding after_list told
refusal_shown table entries totals n = refl

played : (b ns table entries totals : List ℕ) (r : playlists.Played) → Run b (programmes ns) (record { done = 0; used = 0; carried = none; table = table; entries = entries; totals = totals }) r → Playing b ns table entries totals (after_list r)
unfolding after_list told
played b ns table entries totals r run = record {
  inner = r;
  run = run;
  lists = (refl, refl, refl);
  done = λ e. ap told e;
  refused_number = λ place n e. ap told e;
  told_apart = λ place n e. apart place n (told r.answer) (ap told e) (run_numbers run place n e);
}

pub playlisted_calls : Playlists
playlisted_calls b ns table entries totals =
    in_order_through after_list (playlist_call b ns table entries totals) _ (λ n. playlisted n table entries totals) (condition 21 (IsList ns) ∷ []) _ _
    (refusal_shown table entries totals) (λ run. played b ns table entries totals _ run) (playlist_calls b ns table entries totals)
