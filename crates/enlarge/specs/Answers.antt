-- What the answers of this crate mean in the terms of `enlarging`, case by case, and what its private functions say and ask.
use Rattle.std.specs.Prelude.{ℕ, ◌+◌, ◌-◌, ◌≤◌, ◌≡◌, List, length, drop, Result}
use Rattle.trellis.specs.Table.{encode}
use Rattle.base.specs.Lists.{build}
use Rattle.base.specs.Lent.{over}
use Rattle.model.specs.Job as model
use Rattle.model.specs.Pins.{PinMap}
use Rattle.model.specs.Best.{unlimited, least_total}
use Rattle.model.specs.Table.{mark, words}
use Rattle.format.specs.JobBytes as format
use Rattle.format.specs.JobBytes.{job_in}
use Rattle.planning.specs.Words.{table_from}
use Rattle.line.specs.declared.Line.{Line}
use Rattle.line.specs.Answers.{line_is, LineFits}
use Rattle.table.specs.Answers.{Starts}
use Rattle.enlarging.specs.Larger.{with_size}
use Rattle.enlarging.specs.Calls as calls
use Rattle.enlarging.specs.Calls.{own_size, sized, least_at, least_totals}
use Rattle.header.specs.declared.refusal.Refusal.{Refusal}
use Rattle.header.specs.Answers.{done}

-- the answer of the list, and the lists that were lent
unfoldable pub listed : Result (Unit {0}) Refusal → List ℕ → List ℕ → calls.Listed
listed x table totals = record { answer = done x; table = table; totals = totals }

-- What the private functions say and ask.

-- the line with a first bucket of this size
pub record LineWith (l : Line) (size : ℕ) (r : Line) : Type 0 where
  pub is : line_is r ≡ with_size (line_is l) 0 size
  pub fits : LineFits r

-- of a job over some line, with these pins and from these levels
module _ (j : model.Job) (m : PinMap) (s : model.Levels) where
  -- the least total, or the mark where there is no plan
  abbrev pub least : ℕ
  least = encode mark (least_total j (unlimited m) 0 s)

  -- it is found by filling the table
  pub record Found (old : List ℕ) (r : ℕ) (new : List ℕ) : Type 0 where
    pub total : r ≡ least
    pub table_is : new ≡ table_from ◌+◌ j (unlimited m) 0 old

  -- it is at most one number and at least another
  pub record Between (before last : ℕ) : Type 0 where
    pub no_more : least ≤ before
    pub no_less : last ≤ least

  -- it is told, and the words behind the table are kept
  pub record Told (old : List ℕ) (r : ℕ) (new : List ℕ) : Type 0 where
    pub total : r ≡ least
    pub size : length new ≡ length old
    pub rest : (n : ℕ) → words j ≤ n → drop n new ≡ drop n old

-- the bytes of a job with its line and its starting levels, the pins of a set, and lists that are long enough
pub record Lists (b : List ℕ) (h : format.Header) (l : Line) (pins : List ℕ) (s : model.Levels) (table totals : List ℕ) : Type 0 where
  pub starts : Starts b h l pins
  pub own : line_is l ≡ (job_in b).line
  pub start : s ≡ (job_in b).start
  pub room : words (sized (job_in b) 255) ≤ length table
  pub space : 256 ≤ own_size (job_in b) + length totals

-- the totals of the sizes below the largest; the words behind the largest table are kept
pub record Smaller (j : model.Job) (m : PinMap) (table totals new_table new_totals : List ℕ) : Type 0 where
  pub totals_are : new_totals ≡ over (build (255 - own_size j) (λ i. least_at j m (own_size j + i))) totals
  pub size : length new_table ≡ length table
  pub rest : drop (words (sized j 255)) new_table ≡ drop (words (sized j 255)) table

-- the totals of all sizes, and the table of the largest
pub record AllListed (j : model.Job) (m : PinMap) (table totals new_table new_totals : List ℕ) : Type 0 where
  pub totals_are : new_totals ≡ over (least_totals j m) totals
  pub table_is : new_table ≡ table_from ◌+◌ (sized j 255) (unlimited m) 0 table
