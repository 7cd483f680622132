-- What the values of the code stand for.
use Rattle.std.specs.Prelude.{ℕ, List}
use Rattle.ruleformat.specs.Records.{kind, body}
use Rattle.ruleformat.specs.Starts.{start_options, yes_mask, no_mask}
use Rattle.rulefile.specs.declared.start.Start.{Start}
use Rattle.rulefile.specs.declared.record.Record.{Record}
use Rattle.rulefile.specs.declared.record.Record.TheVariants as record_case

-- a start by the number of options and its two masks
pub record StartView : Type 0 where
  pub options : ℕ
  pub yes_options : ℕ
  pub no_options : ℕ

abbrev pub start_view : Start → StartView
start_view s = record { options = s.options; yes_options = s.known.yes; no_options = s.known.no }

abbrev pub start_in : List ℕ → StartView
start_in b = record { options = start_options b; yes_options = yes_mask b; no_options = no_mask b }

-- a record by its kind, body and place
pub record Shown : Type 0 where
  pub kind : ℕ
  pub body : List ℕ
  pub place : ℕ

abbrev pub shown : (kind : ℕ) → List ℕ → (place : ℕ) → Shown
shown k b p = record { kind = k; body = b; place = p }

abbrev pub show : Record → Shown
show (record_case.Start b) = shown 1 b.bytes.now b.place
show (record_case.Table b) = shown 2 b.bytes.now b.place
show (record_case.Clauses b) = shown 3 b.bytes.now b.place
show (record_case.Folder b) = shown 4 b.bytes.now b.place
show (record_case.Question b) = shown 5 b.bytes.now b.place

-- the record that begins the bytes
abbrev pub whole : ℕ → List ℕ → Shown
whole p rest = shown (kind rest) (body rest) p
