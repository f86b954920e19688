-- What the totals of larger first buckets come to: each is at most the mark, and none exceeds that of a smaller size; and the table of a line with more room has no fewer words.
use Prim.Native.Nat.{ℕ, zero, suc, ◌+◌, ◌-◌, ◌≤◌}
use mathlib.Core.Path.{◌≡◌, refl, sym, ◌∙◌}
use mathlib.Core.Option.{Option, none, some}
use mathlib.Core.List.{List, [], ◌∷◌, map}
use native.Mathlib.Omega.{arith}
use native.Mathlib.Nat.{le_refl, mul-le-mul}
use lib.ListN.{length, set, length-set}
use Rattle.trellis.specs.Minimum.{AtMost, at_most}
use Rattle.trellis.specs.Table.{encode}
use Rattle.trellis.proofs.Optimality.{sum_combines}
use Rattle.model.specs.Job.{Bucket, Line, bucket_at, Levels, Job, on_line, intervals}
use Rattle.model.specs.Pins.{PinMap}
use Rattle.model.specs.Best.{late, Open, unlimited, least_by, least_total}
use Rattle.model.specs.Table.{mark, bound, span, tops, words, Bounded}
use Rattle.model.proofs.Lines.{bounded_on}
use Rattle.model.proofs.Tables.{distortions_small}
use Rattle.enlarging.specs.Larger.{Larger, with_bucket, with_size}
use Rattle.enlarging.specs.Calls.{sized, least_at}
use Rattle.enlarging.proofs.Larger.{lessens}
use Rattle.enlarging.proofs.NoLess.{NoLess, no_bucket, next_bucket, no_less}

-- a value that is at most another where that is there, and small, is at most it as a word
word_at_most : (x y : Option ℕ) → ((v : ℕ) → x ≡ some v → AtMost y v) → ((v : ℕ) → y ≡ some v → v ≤ mark) → encode mark y ≤ encode mark x
unfolding encode
word_at_most none none h small = le_refl mark
word_at_most none (some w) h small = small w refl
word_at_most (some v) y h small = go y (h v refl)
  where
    go : (z : Option ℕ) → AtMost z v → encode mark z ≤ v
    go z (at_most q) = q

word_small : (y : Option ℕ) → ((v : ℕ) → y ≡ some v → v ≤ mark) → encode mark y ≤ mark
unfolding encode
word_small none small = le_refl mark
word_small (some w) small = small w refl

-- a least total is small
pub small_total : (j : Job) (k : Open) (start : Levels) → Bounded j → (v : ℕ) → least_total j k 0 start ≡ some v → v ≤ bound
unfolding least_by
small_total j k start b v e = (distortions_small j k late b ◌+◌ sum_combines (λ t s. Unit {0})).values (intervals j - 0) 0 start v (omega arith) tt e

-- the first bucket of one size in place of that of another
first_size : (ks : List Bucket) (drain a b : ℕ) → a ≤ b → (i : ℕ) → (bucket_at (set ks 0 (record { size = a; drain = drain })) i).size ≤ (bucket_at (set ks 0 (record { size = b; drain = drain })) i).size
first_size [] drain a b h i = le_refl _
first_size (k ∷ ks) drain a b h zero = h
first_size (k ∷ ks) drain a b h (suc i) = le_refl _

first_drain : (ks : List Bucket) (drain a b i : ℕ) → (bucket_at (set ks 0 (record { size = a; drain = drain })) i).drain ≤ (bucket_at (set ks 0 (record { size = b; drain = drain })) i).drain
first_drain [] drain a b i = le_refl _
first_drain (k ∷ ks) drain a b zero = le_refl _
first_drain (k ∷ ks) drain a b (suc i) = le_refl _

pub size_larger : (line : Line) (a b : ℕ) → a ≤ b → Larger (with_size line 0 a) (with_size line 0 b)
unfolding with_size with_bucket
size_larger line a b h =
    let drain = (bucket_at line.buckets 0).drain in
    record {
      rates = refl;
      count = length-set line.buckets 0 _ ∙ sym (length-set line.buckets 0 _);
      decoder = le_refl line.decoder;
      size = λ i b'. first_size line.buckets drain a b h i;
      drain = λ i b'. first_drain line.buckets drain a b i;
    }

small_at : (j : Job) (m : PinMap) (size : ℕ) → Bounded j → (v : ℕ) → least_total (sized j size) (unlimited m) 0 j.start ≡ some v → v ≤ mark
small_at j m size bounded v e = omega (arith, small_total (sized j size) (unlimited m) j.start (bounded_on j (with_size j.line 0 size) bounded) v e)

pub least_most : (j : Job) (m : PinMap) (size : ℕ) → Bounded j → least_at j m size ≤ mark
unfolding least_at
least_most j m size bounded = word_small (least_total (sized j size) (unlimited m) 0 j.start) (small_at j m size bounded)

pub least_falls : (j : Job) (m : PinMap) (a b : ℕ) → Bounded j → a ≤ b → least_at j m b ≤ least_at j m a
unfolding least_at
least_falls j m a b bounded h =
    word_at_most (least_total (sized j a) (unlimited m) 0 j.start) (least_total (sized j b) (unlimited m) 0 j.start)
    (unfold on_line in (lessens (sized j a) (with_size j.line 0 b) (size_larger j.line a b h) ◌+◌ sum_combines.monotone (unlimited m) 0 j.start)) (small_at j m b bounded)

-- the table of a line with more room has no fewer words
spans : {ks ks' : List Bucket} → NoLess ks ks' → span (map (λ k. k.size) ks) ≤ span (map (λ k. k.size) ks')
unfolding span
spans no_bucket = le_refl 1
spans (next_bucket {k = k} {k' = k'} {ks = ks} {ks' = ks'} h g r) =
    let more : k.size + 1 ≤ k'.size + 1 = omega arith in
    mul-le-mul more (spans r)

pub words_larger : (j : Job) (line : Line) → Larger j.line line → words j ≤ words (on_line j line)
unfolding words tops span on_line intervals
words_larger j line larger =
    let more : j.line.decoder + 1 ≤ line.decoder + 1 = omega (arith, larger.decoder) in
    mul-le-mul (le_refl (length j.units + j.delay + 1)) (mul-le-mul more (spans (no_less larger)))

pub words_rise : (j : Job) (a b : ℕ) → a ≤ b → words (sized j a) ≤ words (sized j b)
unfolding on_line
words_rise j a b h = words_larger (sized j a) (with_size j.line 0 b) (size_larger j.line a b h)
