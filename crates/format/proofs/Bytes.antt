-- Which bytes a job's rates, sizes and distortions are: `Placing`.
use Prim.Native.Nat.{ℕ, ◌+◌, ◌*◌, ◌-◌, ◌≤◌, ◌<◌}
use mathlib.Core.Path.{◌≡◌, sym, ap, ◌∙◌}
use mathlib.Core.List.{List}
use native.Mathlib.Omega.{arith}
use native.Mathlib.Nat.{suc-mul, mul-le-mul_right}
use lib.ListN.{length}
use Rattle.model.specs.Job.{Coding, Job}
use Rattle.format.specs.Parser.{took}
use Rattle.format.specs.JobBytes.{Door, header_in, parse}
use Rattle.format.specs.Places.{field_at, header_size, unit_size, job_size, rate_place, rate_at, coding_place, coding_at}
use Rattle.format.specs.Claims.{u16_at, u32_at, first_rate, entry_of, Placing}
use Rattle.format.proofs.Fields.{two_at, u32_there}
use Rattle.format.proofs.Header.{buckets_count}
use Rattle.format.proofs.Places.{field_there, well_read, looks_up, read_size, read_within}

-- a field that is wholly there, at a place that is shown equal
u16_field : (b : List ℕ) (at place : ℕ) → at ≡ place → at + 2 ≤ length b → field_at 2 b at ≡ u16_at b place
u16_field b at place e h = field_there 2 b at h ∙ two_at b at h ∙ ap (u16_at b) e

u32_field : (b : List ℕ) (at place : ℕ) → at ≡ place → at + 4 ≤ length b → field_at 4 b at ≡ u32_at b place
u32_field b at place e h = field_there 4 b at h ∙ u32_there b at h ∙ ap (u32_at b) e

-- the i-th of n parts of one size ends where they all do, or before
part_within : (n i s : ℕ) → i < n → i * s + s ≤ n * s
part_within n i s h = omega (arith, suc-mul i s, mul-le-mul_right s h)

module _ (d : Door) (b : List ℕ) (j : Job) (n : ℕ) (e : parse d b ≡ took j n) where
  room : job_size (header_in j) ≤ length b
  room = omega (arith, read_size d b j n e, read_within d b j n e)

  behind_header : header_size (header_in j) + 4 ≡ first_rate j
  unfolding header_in
  behind_header = omega (arith, buckets_count j.line.buckets j.start.buckets (well_read d b j n e).well_formed.fills)

  rate_stands : (y : ℕ) → y < length j.line.rates → rate_at b (header_in j) y ≡ u16_at b (first_rate j + 2 * y)
  unfolding rate_at rate_place header_in
  rate_stands y l = u16_field b _ _ (omega (arith, behind_header)) (omega (arith, room))

  module _ (u x : ℕ) (o : 1 ≤ u) (l : u ≤ length j.units) (k : x < j.choices) where
    entry_place : coding_place (header_in j) u x ≡ entry_of j u x
    unfolding coding_place header_in
    entry_place = omega (arith, behind_header)

    entry_room : entry_of j u x + 6 ≤ length b
    unfolding header_in
    entry_room = omega (arith, room, behind_header, part_within (length j.units) (u - 1) (unit_size j.choices) (omega arith))

    size_stands : (coding_at b (header_in j) u x).size ≡ u16_at b (entry_of j u x)
    unfolding coding_at
    size_stands = u16_field b _ _ entry_place (omega (arith, entry_place, entry_room))

    distortion_stands : (coding_at b (header_in j) u x).distortion ≡ u32_at b (entry_of j u x + 2)
    unfolding coding_at
    distortion_stands = u32_field b _ _ (omega (arith, entry_place)) (omega (arith, entry_place, entry_room))

pub placed : Placing
placed d b j n e =
    let t = looks_up d b j n e in
    record {
      rate = λ y l. sym (t.rate y l) ∙ rate_stands d b j n e y l;
      size = λ u x o l k. sym (ap (λ (c : Coding). c.size) (t.coding u x o l k)) ∙ size_stands d b j n e u x o l k;
      distortion = λ u x o l k. sym (ap (λ (c : Coding). c.distortion) (t.coding u x o l k)) ∙ distortion_stands d b j n e u x o l k;
    }
