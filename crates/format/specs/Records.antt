-- The record that is due: the tests of document 01's table for "each record" and its fields, in their order.
use Rattle.std.specs.Prelude.{ℕ, ◌+◌, List, [], ◌∷◌, ◌++◌, ltb, eqb, length, get_or, take, drop, replicate, if◌then◌else◌}
use Rattle.format.specs.Fields.{number, total, fields, spelled}
use Rattle.format.specs.Limits.{Limit, limit, broken}
use Rattle.format.specs.Parser.{refused, took, Parser, ◌>>=◌, unless_refused, with_value}

-- fields of these widths: 1 where they are not wholly there, else the first limit that is not kept, else their values
unfoldable pub block : List ℕ → (List ℕ → List Limit) → Parser (List ℕ)
block ws limits b =
    if ltb (length b) (total ws) then refused 1
    else unless_refused (broken (limits (fields ws b))) (took (fields ws b) (total ws))

-- a kind of record: the widths of its body's fields, and their limits
pub record Form : Type 0 where
  pub kind : ℕ
  pub widths : List ℕ
  pub limits : List ℕ → List Limit

-- the two fields at a record's head: its length, which counts kind and body, and its kind
abbrev pub head_widths : List ℕ
head_widths = 2 ∷ 2 ∷ []

unfoldable pub head_values : Form → List ℕ
head_values f = (2 + total f.widths) ∷ f.kind ∷ []

-- "kind or length is not the one due"
unfoldable pub head_limits : Form → List ℕ → List Limit
head_limits f vs =
    limit 2 (2 + total f.widths) (2 + total f.widths) (get_or vs 0 0)
    ∷ limit 2 f.kind f.kind (get_or vs 1 0)
    ∷ []

-- the values of the record that is due
unfoldable pub record_due : Form → Parser (List ℕ)
record_due f = do
  head ← block head_widths (head_limits f)
  block f.widths f.limits

-- the kind that stands in a record's head
unfoldable pub kind_in : List ℕ → ℕ
kind_in b = number (take 2 (drop 2 b))

-- where a record of either of two forms is due: the second where it has the second's kind, else the first
unfoldable pub form_for : Form → Form → ℕ → Form
form_for f g kind = if eqb kind g.kind then g else f

-- a record's kind, and the values of its fields
pub record Filled : Type 0 where
  pub kind : ℕ
  pub values : List ℕ

abbrev pub filled : Form → List ℕ → Filled
filled f vs = record { kind = f.kind; values = vs }

unfoldable pub record_either : Form → Form → Parser Filled
record_either f g b = with_value (filled (form_for f g (kind_in b))) (record_due (form_for f g (kind_in b)) b)

-- the bytes of a record with these values
unfoldable pub record_bytes : Form → List ℕ → List ℕ
record_bytes f vs = spelled head_widths (head_values f) ++ spelled f.widths vs

unfoldable pub filled_bytes : Form → Form → Filled → List ℕ
filled_bytes f g r = record_bytes (form_for f g r.kind) r.values

-- a record of n fields of two bytes, any values
unfoldable pub plain_form : ℕ → ℕ → Form
plain_form kind n = record { kind = kind; widths = replicate n 2; limits = λ vs. [] }
