-- The table of least distortions, as words (document 01, "The best plan").
use Rattle.std.specs.Prelude.{ℕ, suc, ◌+◌, ◌*◌, ◌/◌, ◌%◌, ◌<◌, ◌≤◌, ◌≡◌, List, [], ◌∷◌, map, length, get_or, take, drop}
use Rattle.trellis.specs.Table.{encode, marked_stage}
use Rattle.model.specs.Job.{Line, Levels, Job, intervals, job_coding}
use Rattle.model.specs.Admissible.{AllWithin}
use Rattle.model.specs.Best.{Open, late, trellis_of, least_total}

-- the word for "cannot be completed", and the largest word that is read as a distortion (document 02, E9)
abbrev pub mark : ℕ
mark = 4294967295

abbrev pub bound : ℕ
bound = 512000000

-- a layer has a word for each state: a decoder level of at most its size and a level for each bucket, of at most its size
pub record InLayer (line : Line) (s : Levels) : Type 0 where
  pub decoder : s.decoder ≤ line.decoder
  pub count : length s.buckets ≡ length line.buckets
  pub buckets : AllWithin line.buckets s.buckets

-- the sizes, and a state's levels, as one list
abbrev pub sizes : Line → List ℕ
sizes line = map (λ k. k.size) line.buckets

unfoldable pub tops : Line → List ℕ
tops line = line.decoder ∷ sizes line

unfoldable pub flat : Levels → List ℕ
flat s = s.decoder ∷ s.buckets

-- how many lists of levels are at most these
unfoldable pub span : List ℕ → ℕ
span [] = 1
span (k ∷ ks) = (k + 1) * span ks

-- the place of levels among them, the first level outermost, and the levels at a place
unfoldable pub place : List ℕ → List ℕ → ℕ
place ks [] = 0
place [] (l ∷ ls) = 0
place (k ∷ ks) (l ∷ ls) = l * span ks + place ks ls

unfoldable pub levels_at : List ℕ → ℕ → List ℕ
levels_at [] i = []
levels_at (k ∷ ks) i = (i / span ks) ∷ levels_at ks (i % span ks)

unfoldable pub state_at : Line → ℕ → Levels
state_at line i = record { decoder = i / span (sizes line); buckets = levels_at (sizes line) (i % span (sizes line)) }

-- how many words a layer has, and the table: a layer for each of 0 to T
abbrev pub layer_words : Line → ℕ
layer_words line = span (tops line)

unfoldable pub words : Job → ℕ
words j = (intervals j + 1) * layer_words j.line

-- the word of a state after interval t
unfoldable pub word_at : Job → List ℕ → ℕ → Levels → ℕ
word_at j table t s = get_or table (t * layer_words j.line + place (tops j.line) (flat s)) 0

-- the list begins with the table of the job with these choices open, whose layers before `first` may hold other words: each word is the least distortion that the intervals after t can add from its state
pub record IsTable (j : Job) (k : Open) (first : ℕ) (table : List ℕ) : Type 0 where
  pub enough : words j ≤ length table
  pub holds : (t : ℕ) (s : Levels) → first ≤ t → t ≤ intervals j → InLayer j.line s → word_at j table t s ≡ encode 4294967295 (least_total j k t s)

-- the words of a layer, and the word of a state among them
unfoldable pub layer_of : Line → List ℕ → ℕ → List ℕ
layer_of line table t = take (layer_words line) (drop (t * layer_words line) table)

unfoldable pub word_in : Line → List ℕ → Levels → ℕ
word_in line layer s = get_or layer (place (tops line) (flat s)) 0

-- the last layer's words are 0; those of each earlier layer follow from the next layer, a word above the bound being read as "cannot be completed"
pub record FollowsRule (j : Job) (k : Open) (table : List ℕ) : Type 0 where
  pub enough : words j ≤ length table
  pub last : (i : ℕ) → i < layer_words j.line → get_or (layer_of j.line table (intervals j)) i 0 ≡ 0
  pub rule : (t i : ℕ) → t < intervals j → i < layer_words j.line → get_or (layer_of j.line table t) i 0 ≡ marked_stage (trellis_of j k late) ◌+◌ mark bound t (word_in j.line (layer_of j.line table (suc t))) (state_at j.line i)

-- document 01's limits on what is summed: at most 512 units, and each distortion at most 1,000,000
pub record Bounded (j : Job) : Type 0 where
  pub units : length j.units ≤ 512
  pub distortions : (i x : ℕ) → i < length j.units → x < j.choices → (job_coding j i x).distortion ≤ 1000000
