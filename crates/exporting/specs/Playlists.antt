-- What the exported playlist answers and leaves (document 02, E14): the inner call's answer as one number; and what is claimed of it.
use Rattle.std.specs.Prelude.{ℕ, ◌+◌, ◌*◌, ◌≤◌, ◌/◌, ◌%◌, ◌≡◌, List, [], ◌∷◌}
use Rattle.std.proofs.Math.Option.{none}
use Rattle.base.specs.Refusals.{condition, InOrder}
use Rattle.playlists.specs.Calls as playlists
use Rattle.playlists.specs.Calls.{programmes, Outcome, finished, refused_list, refused_at, playlist_call}
use Rattle.playlists.specs.Claims.{IsList, Run}

-- 0 where all programmes are planned; the number of a refusal of the list; or 256 times the place of the programme that is refused, and its number
unfoldable pub told : Outcome → ℕ
told finished = 0
told (refused_list n) = n
told (refused_at place n) = 256 * place + n

pub record Playlisted : Type 0 where
  pub number : ℕ
  pub table : List ℕ
  pub entries : List ℕ
  pub totals : List ℕ

abbrev pub playlisted : ℕ → List ℕ → List ℕ → List ℕ → Playlisted
playlisted n table entries totals = record { number = n; table = table; entries = entries; totals = totals }

unfoldable pub after_list : playlists.Played → Playlisted
after_list r = playlisted (told r.answer) r.table r.entries r.totals

abbrev pub playlist_export : List ℕ → List ℕ → List ℕ → List ℕ → List ℕ → Playlisted
playlist_export b ns table entries totals = after_list (playlist_call b ns table entries totals)

-- where nothing refuses the list: the programmes in turn, of which the claim of `playlists` holds, and the number, from which place and refusal can be told
pub record Playing (b ns table entries totals : List ℕ) (r : Playlisted) : Type 0 where
  pub inner : playlists.Played
  pub run : Run b (programmes ns) (record { done = 0; used = 0; carried = none; table = table; entries = entries; totals = totals }) inner
  pub lists : (r.table ≡ inner.table) × (r.entries ≡ inner.entries) × (r.totals ≡ inner.totals)
  pub done : inner.answer ≡ finished → r.number ≡ 0
  pub refused_number : (place n : ℕ) → inner.answer ≡ refused_at place n → r.number ≡ 256 * place + n
  pub told_apart : (place n : ℕ) → inner.answer ≡ refused_at place n → (r.number % 256 ≡ n) × (r.number / 256 ≡ place)

abbrev pub Playlists : Type 0
Playlists = (b ns table entries totals : List ℕ) → let r = playlist_export b ns table entries totals in InOrder r (λ n. playlisted n table entries totals) (condition 21 (IsList ns) ∷ []) (Playing b ns table entries totals r)
