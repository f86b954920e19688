-- The rest of a plan behind the first entries: what the search found, and that the totals of both parts can be added.
use Prim.Native.Nat.{ℕ, ◌+◌, ◌*◌, ◌≤◌, ◌<◌}
use mathlib.Core.Path.{◌≡◌, refl, sym, ap, ◌∙◌}
use mathlib.Core.Option.{Option, none, some}
use mathlib.Core.List.{List, ◌++◌}
use native.Mathlib.Omega.{arith}
use lib.ListN.{length, get_or, take, drop, take-append-drop}
use lib.Seq.{length-take-le, drop_at, get_or-take}
use Rattle.base.specs.Answer.{refused, gives}
use Rattle.base.proofs.Answers.{not_refused, gives_same}
use Rattle.model.specs.Job as model
use Rattle.model.specs.Job.{Job, on_line, intervals}
use Rattle.model.specs.Pins.{PinMap}
use Rattle.model.specs.Replay as r
use Rattle.model.specs.Replay.{plus}
use Rattle.model.specs.Best.{Order, Open, least_total, total, open_for}
use Rattle.model.proofs.Lines.{intervals_on}
use Rattle.model.proofs.Walks.{fits_length}
use Rattle.format.specs.JobBytes.{Header, job_in, Opens}
use Rattle.format.specs.Claims.{InLimits}
use Rattle.format.proofs.Opened.{job_limits, intervals_are, few_intervals}
use Rattle.interval.specs.declared.Totals.{Totals}
use Rattle.interval.specs.Answers.{totals_of, line_of}
use Rattle.line.specs.declared.Line.{Line}
use Rattle.line.specs.Answers.{line_is, LineFits}
use Rattle.table.specs.Answers.{job_on}
use Rattle.best.proofs.Plans.{drains_most}
use Rattle.replaying.specs.Entries.{entry_size}
use Rattle.planning.specs.Calls as calls
use Rattle.planning.specs.Calls.{searched, search_in}
use Rattle.planning.proofs.DemandThree.{search_claim}
use Rattle.std.specs.Prelude.{Ok, Err}
use Rattle.header.specs.declared.refusal.Refusal.{Refusal}
use Rattle.header.specs.Refusals.{number}
use Rattle.planner.specs.Answers.{planned}
use Rattle.changing.specs.Calls.{both_totals, all_entries, behind}
use Rattle.changing.proofs.Small.{distortion_small, source_small, channel_small, unused_small}
use Rattle.change.specs.Answers.{Adds, Continues}

-- a search that is refused keeps the entries
kept : (j : Job) (k : Open) (o : Order) (s : ℕ) (at : model.Levels) (v : Option ℕ) (table entries : List ℕ) (n : ℕ) → (searched j k o s at v table entries).answer ≡ refused n → (searched j k o s at v table entries).entries ≡ entries
unfolding searched
kept j k o s at none table entries n e = refl
kept j k o s at (some v) table entries n e = absurd (not_refused e)

module _ (j : Job) (m : PinMap) (o : Order) (s : ℕ) (at : model.Levels) (table entries : List ℕ) (before : r.Totals) (first : List ℕ) (a : ℕ) (fits : a ≤ length entries) where
  abbrev found : calls.Planned
  found = search_in j m total o s at table (drop a entries)

  search_kept : (n : ℕ) → found.answer ≡ refused n → found.entries ≡ drop a entries
  unfolding search_in
  search_kept n e = kept j (open_for total j m s at) o s at (least_total j (open_for total j m s at) s at) table (drop a entries) n e

  pub rest_refused : (n : Refusal) (t e : List ℕ) → planned (Err n) t e ≡ found → planned (Err n) t (take a entries ++ e) ≡ behind before first entries found
  unfolding planned behind both_totals all_entries
  rest_refused n t e q =
      let x : refused (number n) ≡ found.answer = ap (λ (r : calls.Planned). r.answer) q in
      let y : t ≡ found.table = ap (λ (r : calls.Planned). r.table) q in
      let z : e ≡ found.entries = ap (λ (r : calls.Planned). r.entries) q in
      rw (← x, ← y) (ap (λ (l : List ℕ). record { answer = refused (number n); table = t; entries = l }) (ap (λ (l : List ℕ). take a entries ++ l) (z ∙ search_kept (number n) (sym x)) ∙ take-append-drop a entries))

  pub rest_best : (rest sum : Totals) (t e w : List ℕ) → planned (Ok rest) t e ≡ found → totals_of sum ≡ plus before (totals_of rest) → w ≡ first ++ drop a (take a entries ++ e) → planned (Ok sum) t w ≡ behind before first entries found
  unfolding planned behind both_totals all_entries
  rest_best rest sum t e w q add put =
      let x : gives (totals_of rest) ≡ found.answer = ap (λ (r : calls.Planned). r.answer) q in
      let y : t ≡ found.table = ap (λ (r : calls.Planned). r.table) q in
      let z : e ≡ found.entries = ap (λ (r : calls.Planned). r.entries) q in
      let d : drop a (take a entries ++ e) ≡ e = drop_at (take a entries) e a (length-take-le a entries fits) in
      rw (← x, ← y, ← z, put, d, add)

-- the totals of both parts fit
module _ (b : List ℕ) (h : Header) (l : Line) (pins : List ℕ) (s : ℕ) (at : model.Levels) (before : Totals) (old table entries : List ℕ) (c : Continues b h l pins s at before old table entries) (m : PinMap) (o : Order) where
  abbrev J : Job
  J = job_on b l

  opens : Opens b h
  opens = c.searches.limits.from.starts.opens

  line_fits : LineFits l
  line_fits = c.searches.limits.from.starts.line

  limits : InLimits (job_in b)
  limits = job_limits b h opens

  rates_count : length (line_is l).rates ≡ l.count
  unfolding line_is line_of
  rates_count = length-take-le l.count l.rates (omega (arith, line_fits.rates, line_fits.size))

  rates_most : (y : ℕ) → y < length (line_is l).rates → get_or (line_is l).rates y 0 ≤ 4095
  rates_most y less = unfold line_is line_of in (rw (get_or-take l.count l.rates y 0 (omega (arith, rates_count))) (line_fits.rate y (omega (arith, rates_count))))

  drains : (i : ℕ) → i < length (line_is l).buckets → (model.bucket_at (line_is l).buckets i).drain ≤ 4095
  unfolding line_is line_of
  drains = drains_most l.buffers line_fits.buffers

  counted : intervals J ≡ h.units + h.delay
  counted = intervals_on (job_in b) (line_is l) ∙ intervals_are b h opens

  pub adds : (rest : Totals) (t e : List ℕ) → planned (Ok rest) t e ≡ search_in J m total o s at table (drop (entry_size * s) entries) → Adds before rest
  unfolding totals_of planned
  adds rest t e q =
      let k = few_intervals b h opens in
      let x : gives (totals_of rest) ≡ (search_in J m total o s at table (drop (entry_size * s) entries)).answer = ap (λ (r : calls.Planned). r.answer) q in
      let claim = search_claim J m total o s at (unfold on_line in (omega (arith, limits.choices))) (unfold on_line in (omega (arith, rates_count, line_fits.rates))) (omega (arith, counted, c.searches.limits.from.few)) table (drop (entry_size * s) entries) c.searches.limits.room (omega (arith, counted, c.searches.space)) in
      let w = claim.else_best (λ z. not_refused (x ∙ z)) in
      let same : totals_of rest ≡ r.totals J s at w.plan = gives_same (x ∙ w.totals_are) in
      let n = fits_length w.best.among.shaped in
      let f = w.best.among.shaped in
      record {
        distortion = omega (arith, c.small.distortion, k, counted, n, ap (λ (t : r.Totals). t.distortion) same, distortion_small (job_in b) limits (line_is l) rates_most drains s at w.plan f);
        source = omega (arith, c.small.source, k, counted, n, ap (λ (t : r.Totals). t.source) same, source_small (job_in b) limits (line_is l) rates_most drains s at w.plan f);
        channel = omega (arith, c.small.channel, k, counted, n, ap (λ (t : r.Totals). t.channel) same, channel_small (job_in b) limits (line_is l) rates_most drains s at w.plan f);
        unused = λ i. omega (arith, c.small.unused i, k, counted, n, ap (λ (t : r.Totals). get_or t.unused i 0) same, unused_small (job_in b) limits (line_is l) rates_most drains s at w.plan f i);
      }
