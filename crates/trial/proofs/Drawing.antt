-- What the loops that draw keep: how far the state has come, and what the next number is.
use Rattle.std.proofs.Common.{◌≡◌, ℕ, zero, suc, ◌+◌, ◌-◌, ◌*◌, ◌/◌, ◌%◌, ◌<◌, ◌≤◌, List, ◌++◌, length, take, drop, sym, ap, ◌∙◌, append-nil, suc-mul, add-one, arith, drop_of_length-le}
use Rattle.base.specs.Lists.{build}
use Rattle.base.proofs.Builds.{build_length, build_cong}
use Rattle.format.specs.Records.{record_bytes}
use Rattle.format.specs.JobBytes.{rates_form, unit_bytes}
use Rattle.writing.specs.Lists.{codings_from}
use Rattle.writing.proofs.Lists.{codings_count, codings_take, codings_drop}
use Rattle.records.proofs.Records.{room, part_length}
use Rattle.trials.specs.Draws.{next, after, draw, rate_drawn, size_drawn, distortion_drawn}
use Rattle.trials.proofs.Draws.{after_more, rate_most, size_later, distortion_later}
use Rattle.trials.proofs.Drawn.{build_part}

-- the least that the y-th rate may be
unfoldable pub low_drawn : ℕ → ℕ → ℕ
low_drawn s zero = 0
low_drawn s (suc y) = suc (rate_drawn s y)

rate_by : (s y : ℕ) → rate_drawn s y ≡ low_drawn s y + draw s y % 4
unfolding low_drawn rate_drawn
rate_by s zero = omega arith
rate_by s (suc y) = omega arith

pub low_most : (s y : ℕ) → low_drawn s y ≤ 4 * y
unfolding low_drawn
low_most s zero = omega arith
low_most s (suc y) = omega (arith, rate_most s y)

pub low_next : (s y rate : ℕ) → rate ≡ rate_drawn s y → rate + 1 ≡ low_drawn s (y + 1)
unfolding low_drawn
low_next s y rate r = rw (add-one y, add-one rate, r)

-- one draw
module _ (s y : ℕ) (drawn new : ℕ) (at : drawn ≡ after y s) (e : new ≡ next drawn) where
  pub one_more : new ≡ after (y + 1) s
  unfolding after
  one_more = e ∙ rw (at, add-one y)

  pub drawn_is : new / 65536 ≡ draw s y
  unfolding draw
  drawn_is = rw (e, at)

  pub rate_next : (low half : ℕ) → low ≡ low_drawn s y → half ≡ new / 65536 → low + half % 4 ≡ rate_drawn s y
  rate_next low half l h = rw (l, h, drawn_is) (rw (rate_by s y))

-- two draws, of a size and of a distortion
module _ (s x : ℕ) (drawn first second : ℕ) (at : drawn ≡ after (2 * x) s) (e : first ≡ next drawn) (f : second ≡ next first) where
  pub two_more : second ≡ after (2 * (x + 1)) s
  two_more = one_more s (2 * x + 1) first second (one_more s (2 * x) drawn first at e) f ∙ ap (λ (n : ℕ). after n s) (omega arith)

  pub size_next : (half : ℕ) → half ≡ first / 65536 → half % 64 ≡ size_drawn s x
  unfolding size_drawn
  size_next half h = rw (h, drawn_is s (2 * x) drawn first at e)

  pub distortion_next : (half : ℕ) → half ≡ second / 65536 → half ≡ distortion_drawn s x
  unfolding distortion_drawn
  distortion_next half h = h ∙ drawn_is s (2 * x + 1) first second (one_more s (2 * x) drawn first at e) f

-- a list that is built to its end
pub build_all : (f : ℕ → ℕ) (l m : List ℕ) (n k : ℕ) → l ≡ build n f ++ drop n m → n ≡ k → length m ≡ k → l ≡ build k f
build_all f l m n k e q h = let z : length m ≤ k = omega arith in e ∙ rw (q, drop_of_length-le m z) (append-nil (build k f))

-- the records of lists that are drawn
pub rates_put : (l : List ℕ) (m : ℕ) (f : ℕ → ℕ) → l ≡ build m f → record_bytes (rates_form (length l)) l ≡ record_bytes (rates_form m) (build m f)
rates_put l m f e = rw (e, build_length m f)

pub unit_put : (ss ds : List ℕ) (m : ℕ) (f g : ℕ → ℕ) → ss ≡ build m f → ds ≡ build m g → unit_bytes (length ss) (codings_from ss ds) ≡ unit_bytes m (codings_from (build m f) (build m g))
unit_put ss ds m f g e h = rw (e, h, build_length m f)

-- the state that a unit leaves
pub unit_after : (s m i drawn new : ℕ) → drawn ≡ after (2 * (i * m)) s → new ≡ after (2 * m) drawn → new ≡ after (2 * ((i + 1) * m)) s
unit_after s m i drawn new e f =
    let k : 2 * (i * m) + 2 * m ≡ 2 * ((i + 1) * m) = omega (arith, suc-mul i m) in
    f ∙ rw (e, after_more (2 * m) (2 * (i * m)) s, k)

-- the codings of n units
module _ (s n m : ℕ) where
  abbrev sizes : List ℕ
  sizes = build (n * m) (size_drawn s)

  abbrev distortions : List ℕ
  distortions = build (n * m) (distortion_drawn s)

  same_long : length sizes ≡ length distortions
  same_long = build_length (n * m) (size_drawn s) ∙ sym (build_length (n * m) (distortion_drawn s))

  pub lists_long : length (codings_from sizes distortions) ≡ n * m
  lists_long = codings_count sizes distortions same_long ∙ build_length (n * m) (size_drawn s)

  -- those of one of them, drawn from the state that the units before it leave
  module _ (i : ℕ) (less : i < n) where
    sizes_part : build m (size_drawn (after (2 * (i * m)) s)) ≡ take m (drop (i * m) sizes)
    sizes_part = build_cong m _ _ (λ x l. size_later s (i * m) x) ∙ sym (build_part (n * m) (i * m) m (size_drawn s) (room i n m less))

    distortions_part : build m (distortion_drawn (after (2 * (i * m)) s)) ≡ take m (drop (i * m) distortions)
    distortions_part = build_cong m _ _ (λ x l. distortion_later s (i * m) x) ∙ sym (build_part (n * m) (i * m) m (distortion_drawn s) (room i n m less))

    pub unit_drawn : codings_from (build m (size_drawn (after (2 * (i * m)) s))) (build m (distortion_drawn (after (2 * (i * m)) s))) ≡ take m (drop (i * m) (codings_from sizes distortions))
    unit_drawn =
        rw (sizes_part, distortions_part)
        (codings_take m (drop (i * m) sizes) (drop (i * m) distortions)
        ∙ ap (take m) (codings_drop (i * m) sizes distortions same_long))

-- the first m numbers of a list, as a slice of them has them
pub part_long : (l : List ℕ) (m : ℕ) → m ≤ length l → length (take (m - 0) (drop 0 l)) ≡ m
part_long l m h = let e : m - 0 ≡ 0 + m - 0 = omega arith in rw e (part_length l 0 m (omega arith))
