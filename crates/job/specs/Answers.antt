-- What the reader's structs and answers mean in the terms of the crates below, case by case.
use Rattle.std.specs.Prelude.{ℕ, ◌≤◌, Bool, List, ltb, length, drop, if◌then◌else◌}
use Rattle.std.specs.Prelude.{Ok, Err}
use Rattle.std.specs.Prelude as std
use Rattle.std.proofs.Math.Option.{Option, none, some}
use Rattle.base.specs.Refusals.{first}
use Rattle.format.specs.Fields.{total, fields}
use Rattle.format.specs.Limits.{broken}
use Rattle.format.specs.Parser.{Result, refused, took, refusal_of}
use Rattle.format.specs.Records.{Form, head_widths, head_limits, block, plain_form, record_due}
use Rattle.format.specs.JobBytes as format
use Rattle.format.specs.JobBytes.{header_form, rates_form, unit_form, Door, header_of, drain_limits}
use Rattle.header.specs.Answers.{plain, extra}
use Rattle.job.specs.declared.Due.{Due}
use Rattle.job.specs.declared.Due.TheVariants as d
use Rattle.job.specs.declared.Reading.{Reading}
use Rattle.header.specs.declared.refusal.Refusal.{Refusal}
use Rattle.header.specs.Refusals.{number}

-- the answer of opening, in document 01's terms: the refusal's number, or the header and how many bytes the job took
abbrev pub reading : std.Result Reading Refusal → Result format.Header
reading (Err r) = refused (number r)
reading (Ok k) = took (plain k.header) k.taken

-- the record that is due
unfoldable pub form_of : Due → Form
form_of d.Header = header_form 0
form_of d.TwoBuckets = header_form 1
form_of (d.Rates n) = rates_form n
form_of (d.Unit n) = unit_form n
form_of (d.Plain kind n) = plain_form kind n

-- the record's count of fields is small enough for its length
abbrev pub Small : Due → Type 0
Small d.Header = Unit {0}
Small d.TwoBuckets = Unit {0}
Small (d.Rates n) = n ≤ 1000
Small (d.Unit n) = n ≤ 1000
Small (d.Plain kind n) = n ≤ 255

-- what a record is refused for before its fields are looked at
unfoldable pub shape : Form → List ℕ → Option ℕ
shape f b = first (refusal_of (block head_widths (head_limits f) b)) (if ltb (length (drop 4 b)) (total f.widths) then some 1 else none)

-- a result that answers this header
unfoldable pub answering : {A : Type 0} → format.Header → Result A → Result format.Header
answering h (refused n) = refused n
answering h (took a k) = took h k

-- what refuses a header of one bucket or of two: its record, then its drains by the door
unfoldable pub header_refusal : Door → Bool → List ℕ → Option ℕ
header_refusal d two b = first (refusal_of (record_due (header_form (extra two)) b)) (broken (drain_limits d (header_of (fields (header_form (extra two)).widths (drop 4 b))).buckets))
