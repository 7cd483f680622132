-- The laws of one body by itself, for a sheet or a folder that is read where there is no file.
use Rattle.std.specs.Prelude.{◌≡◌, ℕ, ◌≤◌, List, Ok}
use Rattle.refusals.specs.Checks.{Check, judged}
use Rattle.ruleformat.specs.Clauses.{clauses_checks, clauses_of}
use Rattle.ruleformat.specs.Encoding.{encode_entries, encode_sheet, encode_table}
use Rattle.ruleformat.specs.Folders.{entries_of, folder_checks}
use Rattle.ruleformat.specs.Laws.{Byte}
use Rattle.ruleformat.specs.Tables.{table_checks, table_of}
use Rattle.ruleformat.specs.WellFormed.{ClausesFit, Each, FolderFits, TableFits}

-- what a body is read as, if it passes its checks, fits, and its encoding is the body
abbrev pub BodyIsEncoded : {X F : Type 0} → (checks : List ℕ → List (Check F)) → (read : List ℕ → X) → (Fits : X → Type 0) → (encoding : X → List ℕ) → Type 0
BodyIsEncoded {X} checks read Fits encoding =
    (body : List ℕ) (x : X) → Each Byte body → judged (checks body) (read body) ≡ Ok x → Fits x × (encoding x ≡ body)

-- the encoding of what fits is a list of bytes, and a body that passes its checks and is read back
abbrev pub EncodedBodyIsRead : {X F : Type 0} → (checks : List ℕ → List (Check F)) → (read : List ℕ → X) → (Fits : X → Type 0) → (encoding : X → List ℕ) → Type 0
EncodedBodyIsRead {X} checks read Fits encoding =
    (x : X) → Fits x → Each Byte (encoding x) × (judged (checks (encoding x)) (read (encoding x)) ≡ Ok x)

-- a table's body with n options, at any place; up to 64 options fit their bytes
abbrev pub TableBodies : Type 0
TableBodies =
    (n place : ℕ)
    → BodyIsEncoded (table_checks n place) table_of (TableFits n) encode_table
    × (n ≤ 64 → EncodedBodyIsRead (table_checks n place) table_of (TableFits n) encode_table)

-- the body of a clause sheet likewise; up to 64 options fit six bits of a byte
abbrev pub ClauseBodies : Type 0
ClauseBodies =
    (n place : ℕ)
    → BodyIsEncoded (clauses_checks n place) clauses_of (ClausesFit n) encode_sheet
    × (n ≤ 64 → EncodedBodyIsRead (clauses_checks n place) clauses_of (ClausesFit n) encode_sheet)

-- a folder's body likewise, over a count of rules; masks of up to 64 options fit a word, and up to 32 rules their bytes
abbrev pub FolderBodies : Type 0
FolderBodies =
    (n below place : ℕ)
    → BodyIsEncoded (folder_checks n below place) entries_of (FolderFits n below) encode_entries
    × (n ≤ 64 → below ≤ 32 → EncodedBodyIsRead (folder_checks n below place) entries_of (FolderFits n below) encode_entries)
