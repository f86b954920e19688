-- The numbers of a set as they are laid down: the header's, the pins, the totals.
use Rattle.std.specs.Prelude.{Option, Some, None}
use Prim.Native.Nat.{ℕ, ◌+◌}
use mathlib.Core.Path.{◌≡◌, refl, ap, ◌∙◌}
use mathlib.Core.List.{List, [], ◌∷◌, ◌++◌, append_assoc}
use native.Mathlib.Omega.{arith}
use lib.ListN.{length, get_or, drop, length-append}
use lib.Seq.{length-take-le}
use Rattle.base.specs.Lent.{over, over_at}
use Rattle.base.proofs.Lent.{over_behind}
use Rattle.format.specs.JobBytes.{Policed, Header, no_bucket, further_buckets, bucket_values, nine_values, header_values, header_kind}
use Rattle.header.specs.declared.Bucket.{Bucket}
use Rattle.header.specs.declared.Header as code
use Rattle.header.specs.Answers.{policed_of, plain}
use Rattle.pinning.specs.PinSet.{PinSet}
use Rattle.pinning.specs.Numbers.{twelve, total_numbers, set_numbers}
use Rattle.numbers.specs.Parts.{header_numbers}

-- a header's thirteen numbers, from its kind and what stands for a second bucket
pub header_laid : (h : code.Header) (kind : ℕ) (k2 : Policed) → kind ≡ header_kind (further_buckets (plain h)) → k2 ≡ get_or (plain h).buckets 1 no_bucket → kind ∷ h.units ∷ h.delay ∷ h.decoder ∷ h.first.size ∷ h.first.drain ∷ h.level ∷ h.first.fill ∷ h.rates ∷ h.choices ∷ k2.size ∷ k2.drain ∷ k2.fill ∷ [] ≡ header_numbers (plain h)
unfolding header_numbers twelve header_values nine_values bucket_values plain policed_of header_kind
header_laid h kind k2 e f = go h.second refl
  where
    go : (o : Option Bucket) → h.second ≡ o → kind ∷ h.units ∷ h.delay ∷ h.decoder ∷ h.first.size ∷ h.first.drain ∷ h.level ∷ h.first.fill ∷ h.rates ∷ h.choices ∷ k2.size ∷ k2.drain ∷ k2.fill ∷ [] ≡ header_numbers (plain h)
    go (Some k) t = rw (e, f, t)
    go None t = rw (e, f, t)

-- lists of 13, 512 and 3 numbers, each laid down behind the one before
parts_laid : (w p t list : List ℕ) → length w ≡ 13 → length p ≡ 512 → length t ≡ 3 → over_at 525 t (over_at 13 p (over w list)) ≡ over (w ++ (p ++ t)) list
unfolding over
parts_laid w p t list e f g =
    let n : length (w ++ (p ++ t)) ≡ 528 = omega (arith, length-append w (p ++ t), length-append p t) in
    ap (λ k. over_at 525 t (over_at 13 p (w ++ drop k list))) e
    ∙ ap (over_at 525 t) (over_behind w p list 13 e ∙ ap (λ k. w ++ p ++ drop (13 + k) list) f)
    ∙ over_behind (w ++ p) t list 525 (omega (arith, length-append w p))
    ∙ rw (g, n, append_assoc w p t)

header_size : (h : Header) → length (header_numbers h) ≡ 13
unfolding header_numbers twelve header_values nine_values
header_size h =
    let more = bucket_values (drop 1 h.buckets) ++ (0 ∷ 0 ∷ 0 ∷ []) in
    omega (arith, length-take-le 3 more (omega (arith, length-append (bucket_values (drop 1 h.buckets)) (0 ∷ 0 ∷ 0 ∷ []))))

-- header, pins and totals
pub set_laid : (s : PinSet) (list : List ℕ) → length s.pins ≡ 512 → over_at 525 (total_numbers s.totals) (over_at 13 s.pins (over (header_numbers s.header) list)) ≡ over (set_numbers s) list
unfolding set_numbers total_numbers
set_laid s list size = parts_laid (header_numbers s.header) s.pins (total_numbers s.totals) list (header_size s.header) size refl ∙ unfold header_numbers in refl
