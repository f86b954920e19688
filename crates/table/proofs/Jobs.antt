-- What was read of a job that opens is the job's: its line, and the choices of an interval.
use Prim.Native.Nat.{ℕ, suc, ◌+◌, ◌-◌, ◌<◌, ◌≤◌}
use mathlib.Core.Path.{◌≡◌, refl, sym, ◌∙◌, ap}
use mathlib.Core.Bool.{true}
use mathlib.Core.Option.{Option, none, some}
use mathlib.Core.List.{List, [], ◌∷◌, map}
use native.Mathlib.Omega.{arith}
use lib.ListN.{length, get_or, take}
use lib.Seq.{get_or-take}
use borrow.Author.Tests.{le-leb, lt-leb, eq-eqb, ne_eqb}
use Rattle.trellis.specs.Limit.{keeps_to, only}
use Rattle.std.specs.Prelude.{Some}
use Rattle.std.specs.Prelude as std
use Rattle.std.specs.Option.{option_map, option_to_list}
use Rattle.interval.specs.declared.Policer.{Policer}
use Rattle.model.specs.Job as model
use Rattle.model.specs.Job.{bucket_at, on_line, job_coding, coding}
use Rattle.model.specs.Pins.{mapped_pin, pin_at}
use Rattle.model.specs.Step.{pin_held}
use Rattle.model.specs.Best.{entry, width, Open}
use Rattle.model.proofs.Lines.{coding_on}
use Rattle.format.specs.Places.{rate_at, coding_at}
use Rattle.format.specs.JobBytes.{Policed, Header, largest_sizes, bucket_limits, header_limits, bucket_of, job_in, Opens}
use Rattle.format.specs.Limits.{AllKept}
use Rattle.format.proofs.Choices.{of_choice}
use Rattle.format.proofs.Opened.{job_limits, header_kept, looked_up, units_are, delay_is, rates_are, choices_are, decoder_is, buckets_are}
use Rattle.header.specs.declared.Header as job
use Rattle.header.specs.Answers.{plain}
use Rattle.pinning.specs.PinSet.{lines}
use Rattle.pinning.proofs.Lines.{lines_at}
use Rattle.planning.specs.Rule.{choice_in, allowed_in}
use Rattle.interval.specs.declared.Buffers.{Buffers}
use Rattle.interval.specs.Answers.{bucket_is, line_of, OfHeader}
use Rattle.line.specs.declared.Line.{Line}
use Rattle.table.specs.declared.Choices.{Choices}
use Rattle.line.specs.Answers.{line_is, BuffersFit}
use Rattle.table.specs.Answers.{job_on, limit_of, open_of, allowed_is, LineOf, ChoicesIn, waits, decodes, ChoicesOf, Starts}
use Rattle.table.proofs.Arrays.{Filled, filled_list}

-- the buffers that a header tells are those of its job
pub own_buckets : (b : List ℕ) (h : Header) → Opens b h → (k : Buffers) → OfHeader k h → (line_of k []).buckets ≡ (job_in b).line.buckets
own_buckets b h o k e = e.buckets ∙ sym (buckets_are b h o)

-- and within the header's limits
module _ (first : model.Bucket) where
  first_fits : (hs : List Policed) (rest : List model.Bucket) → first ∷ rest ≡ map bucket_of hs → AllKept (bucket_limits largest_sizes hs) → (first.size ≤ 255) × (first.drain ≤ 4095)
  unfolding bucket_of
  first_fits [] rest e h = absurd (let z : length (first ∷ rest) ≡ 0 = ap length e in omega arith)
  first_fits (p ∷ hs) rest e h = (omega (arith, ap (λ (ks : List model.Bucket). (bucket_at ks 0).size) e), omega (arith, ap (λ (ks : List model.Bucket). (bucket_at ks 0).drain) e))

  second_fits : (hs : List Policed) (second : model.Bucket) → first ∷ second ∷ [] ≡ map bucket_of hs → AllKept (bucket_limits largest_sizes hs) → (second.size ≤ 63) × (second.drain ≤ 4095)
  unfolding bucket_of
  second_fits [] second e h = absurd (let z : length (first ∷ second ∷ []) ≡ 0 = ap length e in omega arith)
  second_fits (p ∷ []) second e h = absurd (let z : length (first ∷ second ∷ []) ≡ 1 = ap length e in omega arith)
  second_fits (p ∷ q ∷ hs) second e h = (omega (arith, ap (λ (ks : List model.Bucket). (bucket_at ks 1).size) e), omega (arith, ap (λ (ks : List model.Bucket). (bucket_at ks 1).drain) e))

pub told_fit : (k : Buffers) (h : Header) → OfHeader k h → AllKept (header_limits h) → BuffersFit k
unfolding line_of
told_fit k h e kept =
    let one = first_fits (bucket_is k.first) h.buckets (option_to_list (option_map bucket_is k.second)) e.buckets kept.1.1.1.1.1.1.1 in
    record {
      decoder = omega (arith, e.decoder);
      bucket = one.0;
      drain = one.1;
      second = λ b t. second_fits (bucket_is k.first) h.buckets (bucket_is b) (sym (both b t) ∙ e.buckets) kept.1.1.1.1.1.1.1;
    }
  where
    both : (b : Policer) → k.second ≡ Some b → bucket_is k.first ∷ option_to_list (option_map bucket_is k.second) ≡ bucket_is k.first ∷ bucket_is b ∷ []
    both b t = rw t refl

-- the line, where the job's rates fill an array
pub line_read : (b : List ℕ) (h : job.Header) (k : Buffers) (rates : List ℕ) → Opens b (plain h) → OfHeader k (plain h) → Filled 0 (rate_at b (plain h)) 16 h.rates rates → LineOf b (record { buffers = k; count = h.rates; rates = rates })
unfolding plain line_is line_of
line_read b h k rates o e f =
    let n = rates_are b (plain h) o in
    let most : h.rates ≤ 16 = omega (arith, n, (job_limits b (plain h) o).rates) in
    let r : take h.rates rates ≡ (job_in b).line.rates = filled_list 0 (rate_at b (plain h)) 16 h.rates rates (job_in b).line.rates most f n (λ i l. ap (λ (g : Header). rate_at b g i) (sym o.header_is) ∙ (looked_up b (plain h) o).rate i (omega (arith, n))) in
    record {
      is =
          ap (λ (d : ℕ). record { decoder = d; buckets = (line_of k []).buckets; rates = take h.rates rates }) (e.decoder ∙ sym (decoder_is b (plain h) o))
          ∙ ap (λ (ks : List model.Bucket). record { decoder = (job_in b).line.decoder; buckets = ks; rates = take h.rates rates }) (own_buckets b (plain h) o k e)
          ∙ ap (λ (rs : List ℕ). record { decoder = (job_in b).line.decoder; buckets = (job_in b).line.buckets; rates = rs }) r;
      fits = record {
        buffers = told_fit k (plain h) e (header_kept b (plain h) o);
        rates = most;
        rate = λ y l. rw (← get_or-take h.rates rates y 0 l, r) ((job_limits b (plain h) o).rate y (omega (arith, n)));
        size = f.size_is;
      };
    }

-- what has no distortion keeps to every limit
nothing_kept : (l : Option ℕ) → keeps_to l 0 ≡ true
unfolding keeps_to
nothing_kept none = refl
nothing_kept (some g) = le-leb 0 g (omega arith)

-- the choices of the interval in a place: up to the delay, and after it
module _ (b : List ℕ) (h : Header) (pins : List ℕ) (limit : std.Option ℕ) (place : ℕ) (c : Choices) (o : Opens b h) (n : length pins ≡ 512) (k : place < h.units + h.delay) where
  none_chosen : place < h.delay → c.unit ≡ 0 → c.count ≡ 1 → ChoicesOf b h (job_in b) (open_of (lines h.units pins) limit) place c
  unfolding width allowed_is allowed_in choice_in entry pin_at pin_held coding only
  none_chosen l u e =
      let t = le-leb (suc place) (job_in b).delay (omega (arith, delay_is b h o)) in
      record {
        count = rw t e;
        each = λ x y. let q : x ≡ 0 = omega (arith, e) in rw (q, t, eq-eqb c.unit 0 u, nothing_kept (limit_of limit));
        fits = record { count = omega arith; small = λ z. absurd (z u) };
      }

  unit_chosen : h.delay ≤ place → c.unit ≡ place - h.delay + 1 → c.count ≡ h.choices → c.pin ≡ get_or pins (place - h.delay) 0 → c.limit ≡ limit → ChoicesOf b h (job_in b) (open_of (lines h.units pins) limit) place c
  unfolding width allowed_is allowed_in choice_in entry pin_at mapped_pin coding
  unit_chosen l u m p i =
      let d = delay_is b h o in
      let us = units_are b h o in
      let ms = choices_are b h o in
      let g = job_limits b h o in
      let t = lt-leb (suc place) (job_in b).delay (omega arith) in
      let at = place - h.delay in
      let unit : (1 ≤ at + 1) × (at + 1 ≤ length (job_in b).units) = (omega arith, omega arith) in
      let coded : (x : ℕ) → x < h.choices → coding_at b h (at + 1) x ≡ job_coding (job_in b) (at + 1 - 1) x = λ x y. ap (λ (i : Header). coding_at b i (at + 1) x) (sym o.header_is) ∙ (looked_up b h o).coding (at + 1) x unit.0 unit.1 (omega arith) in
      let pin_place : suc place - (job_in b).delay - 1 ≡ at = omega arith in
      let unit_place : suc place - ((job_in b).delay + 1) ≡ at + 1 - 1 = omega arith in
      record {
        count = rw t (m ∙ sym ms);
        each = λ x y.
            let z : x < h.choices = omega (arith, m) in
            rw (ne_eqb c.unit 0 (λ q. omega (arith, u)), p, i, u, t, pin_place, unit_place, lines_at h.units pins at (omega (arith, g.units)) (omega arith), of_choice x (λ q. omega (arith, g.choices)), coded x z);
        fits = record {
          count = omega (arith, m, g.choices);
          small = λ _ x y.
              let z : x < h.choices = omega (arith, m) in
              rw (u, coded x z) (g.distortions (at + 1 - 1) x (omega arith) (omega arith));
        };
      }

  choices_of : ChoicesIn h pins limit place c → ChoicesOf b h (job_in b) (open_of (lines h.units pins) limit) place c
  choices_of (waits l u e) = none_chosen l u e
  choices_of (decodes l u m p i) = unit_chosen l u m p i

-- over another line the same
chosen_on : (b : List ℕ) (h : Header) (j : model.Job) (line : model.Line) (m : Open) (place : ℕ) (c : Choices) → ChoicesOf b h j m place c → ChoicesOf b h (on_line j line) m place c
unfolding on_line width
chosen_on b h j line m place c d = record { count = d.count; each = λ x k. d.each x k ∙ sym (same x); fits = d.fits }
  where
    same : (x : ℕ) → allowed_in (on_line j line) m (suc place) x ≡ allowed_in j m (suc place) x
    same x = unfold on_line allowed_in choice_in entry pin_at in rw (coding_on j line (suc place) (choice_in j (suc place) x)) refl

pub choices_on : (b : List ℕ) (h : Header) (l : Line) (pins : List ℕ) (limit : std.Option ℕ) (place : ℕ) (c : Choices) → Starts b h l pins → place < h.units + h.delay → ChoicesIn h pins limit place c → ChoicesOf b h (job_on b l) (open_of (lines h.units pins) limit) place c
choices_on b h l pins limit place c st k told = chosen_on b h (job_in b) (line_is l) (open_of (lines h.units pins) limit) place c (choices_of b h pins limit place c st.opens st.pins_size k told)

pub few_units : (b : List ℕ) (h : Header) → Opens b h → h.units ≤ 512
few_units b h o = omega (arith, units_are b h o, (job_limits b h o).units)
