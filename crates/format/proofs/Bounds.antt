-- What a well-formed job's values keep to, index by index, and that a job which keeps to it is well formed: `Limited`, `OpensExactly` and `TwoDoors`.
use Prim.Native.Nat.{ℕ, zero, suc, ◌+◌, ◌-◌, ◌≤◌, ◌<◌}
use mathlib.Core.Path.{◌≡◌, refl, sym, ◌∙◌, ap}
use mathlib.Core.Option.{Option, none, some}
use mathlib.Core.List.{List, [], ◌∷◌, ◌++◌, zip_with}
use native.Mathlib.Omega.{arith}
use lib.ListN.{length, get_or, drop, take-append-drop}
use lib.Seq.{length-take-le}
use Rattle.model.specs.Job.{Bucket, bucket_at, Coding, Job, intervals, nothing, job_coding, coding, ChoiceFits, waits, decodes}
use Rattle.model.specs.Table.{InLayer, Bounded}
use Rattle.format.specs.Limits.{AllKept}
use Rattle.format.specs.Parser.{took, Each}
use Rattle.format.specs.Parser as P
use Rattle.format.specs.JobBytes.{Policed, no_bucket, Door, opening, archive, drain_limits, Formed, largest_sizes, bucket_limits, rate_limits, coding_limits, policed, header_in, parse, encode, UnitKept, WellFormed}
use Rattle.format.specs.Claims.{InLimits, Limited, Drains, OpensExactly, TwoDoors}
use Rattle.format.proofs.Header.{buckets_count, bucket_told}
use Rattle.format.proofs.RoundTrip.{parse_encode, encode_parse, sized}
use Rattle.format.proofs.Doors.{none_idle, all_drain}
use Rattle.format.proofs.Places.{well_read, other_door, not_drained}

module _ (low : ℕ) where
  rate_low : (rs : List ℕ) → AllKept (rate_limits low rs) → 0 < length rs → low ≤ get_or rs 0 0
  rate_low [] k h = absurd (omega arith)
  rate_low (r ∷ rs) k h = omega arith

pub rate_most_from : (low : ℕ) (rs : List ℕ) → AllKept (rate_limits low rs) → (y : ℕ) → y < length rs → get_or rs y 0 ≤ 4095
rate_most_from low [] k y h = absurd (omega arith)
rate_most_from low (r ∷ rs) k zero h = omega arith
rate_most_from low (r ∷ rs) k (suc y) h = rate_most_from _ rs k.1 y (omega arith)

pub rising_from : (low : ℕ) (rs : List ℕ) → AllKept (rate_limits low rs) → (y : ℕ) → y + 1 < length rs → get_or rs y 0 < get_or rs (suc y) 0
rising_from low [] k y h = absurd (omega arith)
rising_from low (r ∷ rs) k zero h = omega (arith, rate_low _ rs k.1 (omega arith))
rising_from low (r ∷ rs) k (suc y) h = rising_from _ rs k.1 y (omega arith)

pub record CodingKept (c : Coding) : Type 0 where
  pub size : c.size ≤ 4095
  pub distortion : c.distortion ≤ 1000000

coding_kept : (u : List Coding) → AllKept (coding_limits u) → (x : ℕ) → x < length u → CodingKept (get_or u x nothing)
coding_kept [] k x h = absurd (omega arith)
coding_kept (c ∷ u) k zero h = record { size = omega arith; distortion = omega arith }
coding_kept (c ∷ u) k (suc x) h = coding_kept u k.1.1 x (omega arith)

each_at : {A : Type 0} {Q : A → Type 0} (l : List A) (d : A) → Each Q l → (i : ℕ) → i < length l → Q (get_or l i d)
each_at [] d t i h = absurd (omega arith)
each_at (a ∷ l) d (P.one_more q t) zero h = q
each_at (a ∷ l) d (P.one_more q t) (suc i) h = each_at l d t i (omega arith)

-- one bucket or two, each within its limits and with a starting level within its size
record BucketsIn (bs : List Bucket) (ls : List ℕ) : Type 0 where
  some : 1 ≤ length bs
  few : length bs ≤ 2
  fills_count : length ls ≡ length bs
  first_size : (bucket_at bs 0).size ≤ 255
  second_size : (bucket_at bs 1).size ≤ 63
  drains : (i : ℕ) → i < length bs → (bucket_at bs i).drain ≤ 4095
  fills : (i : ℕ) → i < length bs → get_or ls i 0 ≤ (bucket_at bs i).size

buckets_in : (bs : List Bucket) (ls : List ℕ) → length ls ≡ length bs → 1 ≤ length bs → length bs ≤ 2 → AllKept (bucket_limits largest_sizes (zip_with policed bs ls)) → BucketsIn bs ls
unfolding zip_with policed
buckets_in [] ls e s f k = absurd (omega arith)
buckets_in (a ∷ bs) [] e s f k = absurd (omega arith)
buckets_in (a ∷ []) (l ∷ []) e s f k = record {
  some = omega arith;
  few = omega arith;
  fills_count = refl;
  first_size = omega arith;
  second_size = omega arith;
  drains = λ i h. at i h;
  fills = λ i h. level i h;
}
  where
    at : (i : ℕ) → i < 1 → (bucket_at (a ∷ []) i).drain ≤ 4095
    at zero h = omega arith
    at (suc i) h = absurd (omega arith)

    level : (i : ℕ) → i < 1 → get_or (l ∷ []) i 0 ≤ (bucket_at (a ∷ []) i).size
    level zero h = omega arith
    level (suc i) h = absurd (omega arith)
buckets_in (a ∷ []) (l ∷ m ∷ ls) e s f k = absurd (omega arith)
buckets_in (a ∷ b ∷ []) (l ∷ []) e s f k = absurd (omega arith)
buckets_in (a ∷ b ∷ []) (l ∷ m ∷ []) e s f k = record {
  some = omega arith;
  few = omega arith;
  fills_count = refl;
  first_size = omega arith;
  second_size = omega arith;
  drains = λ i h. at i h;
  fills = λ i h. level i h;
}
  where
    at : (i : ℕ) → i < 2 → (bucket_at (a ∷ b ∷ []) i).drain ≤ 4095
    at zero h = omega arith
    at (suc zero) h = omega arith
    at (suc (suc i)) h = absurd (omega arith)

    level : (i : ℕ) → i < 2 → get_or (l ∷ m ∷ []) i 0 ≤ (bucket_at (a ∷ b ∷ []) i).size
    level zero h = omega arith
    level (suc zero) h = omega arith
    level (suc (suc i)) h = absurd (omega arith)
buckets_in (a ∷ b ∷ []) (l ∷ m ∷ n ∷ ls) e s f k = absurd (omega arith)
buckets_in (a ∷ b ∷ c ∷ bs) (l ∷ ls) e s f k = absurd (omega arith)

buckets_kept : (bs : List Bucket) (ls : List ℕ) → BucketsIn bs ls → AllKept (bucket_limits largest_sizes (zip_with policed bs ls))
unfolding zip_with policed
buckets_kept [] ls t = absurd (omega (arith, t.some))
buckets_kept (a ∷ bs) [] t = absurd (omega (arith, t.fills_count))
buckets_kept (a ∷ []) (l ∷ ls) t = let d = t.drains 0 (omega arith) in let k = t.fills 0 (omega arith) in omega (arith, t.first_size, d, k)
buckets_kept (a ∷ b ∷ bs) (l ∷ []) t = absurd (omega (arith, t.fills_count))
buckets_kept (a ∷ b ∷ bs) (l ∷ m ∷ ls) t =
    let d = t.drains 0 (omega arith) in
    let k = t.fills 0 (omega arith) in
    let e = t.drains 1 (omega arith) in
    let n = t.fills 1 (omega arith) in
    omega (arith, t.first_size, t.second_size, d, k, e, n)

pub limited : (j : Job) → WellFormed j → InLimits j
unfolding header_in job_coding
limited j w =
    let k = w.header in
    let n : length (zip_with policed j.line.buckets j.start.buckets) ≡ length j.line.buckets = buckets_count j.line.buckets j.start.buckets w.fills in
    let bs = buckets_in j.line.buckets j.start.buckets w.fills (omega arith) (omega arith) k.1.1.1.1.1.1.1 in
    let unit : (i : ℕ) → i < length j.units → UnitKept j.choices (get_or j.units i []) = λ i h. each_at j.units [] w.units i h in
    let kept : (i x : ℕ) → i < length j.units → x < j.choices → CodingKept (get_or (get_or j.units i []) x nothing) = λ i x h l. coding_kept (get_or j.units i []) (unit i h).limits x (omega (arith, (unit i h).count)) in
    record {
      units = (omega arith, omega arith);
      delay = omega arith;
      decoder = omega arith;
      level = omega arith;
      buckets = (bs.some, bs.few, bs.fills_count);
      first_size = bs.first_size;
      second_size = bs.second_size;
      drains = bs.drains;
      fills = bs.fills;
      rates = (omega arith, omega arith);
      choices = (omega arith, omega arith);
      rate = rate_most_from _ j.line.rates w.rates;
      rise = rising_from _ j.line.rates w.rates;
      codings = λ i h. (unit i h).count;
      sizes = λ i x h l. (kept i x h l).size;
      distortions = λ i x h l. (kept i x h l).distortion;
    }

-- and the other way: limits index by index are limits of the lists
pub rates_within : (low : ℕ) (rs : List ℕ) → (0 < length rs → low ≤ get_or rs 0 0) → ((y : ℕ) → y < length rs → get_or rs y 0 ≤ 4095) → ((y : ℕ) → y + 1 < length rs → get_or rs y 0 < get_or rs (suc y) 0) → AllKept (rate_limits low rs)
rates_within low [] l f g = tt
rates_within low (r ∷ rs) l f g =
    ((l (omega arith), omega (arith, f 0 (omega arith))), rates_within _ rs (λ h. omega (arith, g 0 (omega arith))) (λ y h. f (suc y) (omega arith)) (λ y h. g (suc y) (omega arith)))

pub codings_within : (u : List Coding) → ((x : ℕ) → x < length u → CodingKept (get_or u x nothing)) → AllKept (coding_limits u)
codings_within [] f = tt
codings_within (c ∷ u) f = let k = f 0 (omega arith) in ((omega arith, omega (arith, k.size)), ((omega arith, omega (arith, k.distortion)), codings_within u (λ x h. f (suc x) (omega arith))))

each_from : {A : Type 0} {Q : A → Type 0} (l : List A) (d : A) → ((i : ℕ) → i < length l → Q (get_or l i d)) → Each Q l
each_from [] d f = P.no_more
each_from (a ∷ l) d f = P.one_more (f 0 (omega arith)) (each_from l d (λ i h. f (suc i) (omega arith)))

pub within : (j : Job) → InLimits j → WellFormed j
unfolding header_in job_coding
within j l = record {
  fills = l.buckets.2;
  header = (
    omega arith,
    (
      omega arith,
      (
        omega arith,
        (
          omega arith,
          (
            omega arith,
            (
              omega arith,
              (
                omega (arith, buckets_count j.line.buckets j.start.buckets l.buckets.2, l.buckets),
                buckets_kept j.line.buckets j.start.buckets (record {
                  some = l.buckets.0;
                  few = l.buckets.1;
                  fills_count = l.buckets.2;
                  first_size = l.first_size;
                  second_size = l.second_size;
                  drains = l.drains;
                  fills = l.fills;
                }),
              ),
            ),
          ),
        ),
      ),
    ),
  );
  rates = rates_within _ j.line.rates (λ h. omega arith) l.rate l.rise;
  units = each_from j.units [] (λ i h. record {
    count = l.codings i h;
    limits = codings_within (get_or j.units i []) (λ x k.
        let m : x < j.choices = omega (arith, l.codings i h) in
        record { size = l.sizes i x h m; distortion = l.distortions i x h m });
  });
}

pub limits : Limited
limits j = (limited j, within j)

-- a job's drains, as the door asks for them, and as its header tells them
drain_told : (bs : List Bucket) (ls : List ℕ) → length ls ≡ length bs → (i : ℕ) → i < length bs → (get_or (zip_with policed bs ls) i no_bucket).drain ≡ (bucket_at bs i).drain
unfolding policed
drain_told bs ls e i h = ap (λ (k : Policed). k.drain) (bucket_told bs ls e i h)

pub drains_told : (d : Door) (j : Job) → Formed d j → Drains d j
unfolding header_in
drains_told archive j w = tt
drains_told opening j w = λ i h.
    let n = buckets_count j.line.buckets j.start.buckets w.well_formed.fills in
    omega (arith, none_idle (header_in j).buckets w.drains i (omega arith), drain_told j.line.buckets j.start.buckets w.well_formed.fills i h)

pub told_drains : (d : Door) (j : Job) → InLimits j → Drains d j → AllKept (drain_limits d (header_in j).buckets)
unfolding header_in
told_drains archive j l f = tt
told_drains opening j l f =
    let n = buckets_count j.line.buckets j.start.buckets l.buckets.2 in
    all_drain (header_in j).buckets
    (λ i h. let k : i < length j.line.buckets = omega arith in omega (arith, l.drains i k, drain_told j.line.buckets j.start.buckets l.buckets.2 i k))
    (λ i h. let k : i < length j.line.buckets = omega arith in omega (arith, f i k, drain_told j.line.buckets j.start.buckets l.buckets.2 i k))

pub opens_exactly : OpensExactly
opens_exactly d b B j n = (
  λ e.
      let r = encode_parse d b B j n e in
      let w = r.formed.well_formed in
      (limited j w, drains_told d j r.formed, sym (length-take-le n b r.size) ∙ ap length r.same ∙ sized j w, r.same),
  λ h.
      let w = within j h.0 in
      let s : length (encode j) ≡ n = sized j w ∙ sym h.2 in
      let whole : encode j ++ drop n b ≡ b = ap (λ (l : List ℕ). l ++ drop n b) (sym h.3) ∙ take-append-drop n b in
      ap (parse d) (sym whole) ∙ parse_encode d j (record { well_formed = w; drains = told_drains d j h.0 h.1 }) (drop n b) ∙ ap (took j) s,
)

pub two_doors : TwoDoors
two_doors b j n = record {
  opening_iff = (
    λ e. (other_door opening archive b j n e tt, drains_told opening j (well_read opening b j n e)),
    λ h. other_door archive opening b j n h.0 (told_drains opening j (limited j (well_read archive b j n h.0).well_formed) h.1),
  );
  else_17 = λ e f. not_drained b j n e (λ a. f (drains_told opening j (record { well_formed = (well_read archive b j n e).well_formed; drains = a })));
}

-- what opening reads, the archive reads
pub archived : (d : Door) (b : List ℕ) (j : Job) (n : ℕ) → parse d b ≡ took j n → parse archive b ≡ took j n
archived d b j n e = other_door d archive b j n e tt

-- the starting levels are in the layer
pub start_inside : (j : Job) → InLimits j → InLayer j.line j.start
start_inside j k = record { decoder = k.level; count = k.buckets.2; buckets = k.fills }

-- what the table law asks of a job
pub bounded : (j : Job) → WellFormed j → Bounded j
bounded j w = let l = limited j w in record { units = l.units.1; distortions = l.distortions }

-- of a choice in range, what an interval decodes
pub coding_within : (j : Job) → InLimits j → (t : ℕ) → t ≤ intervals j → (c : Option ℕ) → ChoiceFits j t c → CodingKept (coding j t c)
unfolding coding intervals
coding_within j l t h none (waits k) = record { size = omega arith; distortion = omega arith }
coding_within j l t h (some x) (decodes k y) =
    let i : t - (j.delay + 1) < length j.units = omega arith in
    record { size = l.sizes (t - (j.delay + 1)) x i y; distortion = l.distortions (t - (j.delay + 1)) x i y }
