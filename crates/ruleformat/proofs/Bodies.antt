-- A body by itself, by the lemmas on which the laws of a file rest.
use Rattle.std.proofs.Common.{◌≡◌, ℕ, List, Ok, sym, ap, ◌∙◌, subst}
use Rattle.refusals.specs.Checks.{Check}
use Rattle.refusals.proofs.Judged.{judged_value}
use Rattle.ruleformat.specs.Bodies.{BodyIsEncoded, ClauseBodies, EncodedBodyIsRead, FolderBodies, TableBodies}
use Rattle.ruleformat.specs.Clauses.{clauses_checks, clauses_of}
use Rattle.ruleformat.specs.Encoding.{encode_entries, encode_sheet, encode_table}
use Rattle.ruleformat.specs.Folders.{entries_of, folder_checks}
use Rattle.ruleformat.specs.Laws.{Byte}
use Rattle.ruleformat.specs.Tables.{table_checks, table_of}
use Rattle.ruleformat.specs.WellFormed.{ClausesFit, Each, FolderFits, TableFits}
use Rattle.ruleformat.proofs.EncodedClauses.{sheet_bytes, sheet_passes, sheet_read}
use Rattle.ruleformat.proofs.EncodedFolder.{folder_bytes, folder_passes, folder_read}
use Rattle.ruleformat.proofs.EncodedTable.{table_bytes, table_passes, table_read}
use Rattle.ruleformat.proofs.FitClauses.{sheet_fits}
use Rattle.ruleformat.proofs.FitFolder.{folder_fits}
use Rattle.ruleformat.proofs.FitTable.{table_fits}
use Rattle.refusals.proofs.Passing.{accepted_passes, Passing, passing_accepts}

module _ {X F : Type 0} (checks : List ℕ → List (Check F)) (read : List ℕ → X) (Fits : X → Type 0) (encoding : X → List ℕ) where
  body_encoded : ((body : List ℕ) → Each Byte body → Passing (checks body) → Fits (read body) × (encoding (read body) ≡ body)) → BodyIsEncoded checks read Fits encoding
  body_encoded fit body x bytes h =
      subst (λ y. Fits y × (encoding y ≡ body)) (sym (judged_value (checks body) (read body) x h))
      (fit body bytes (accepted_passes (checks body) (read body) x h))

  body_read : ((x : X) → Fits x → Each Byte (encoding x) × Passing (checks (encoding x)) × (read (encoding x) ≡ x)) → EncodedBodyIsRead checks read Fits encoding
  body_read fine x fits =
      let r = fine x fits in
      (r.0, passing_accepts (checks (encoding x)) (read (encoding x)) r.1 ∙ ap Ok r.2)

pub table_bodies : TableBodies
table_bodies n place = (
  body_encoded (table_checks n place) table_of (TableFits n) encode_table (table_fits n place),
  λ few.
      body_read (table_checks n place) table_of (TableFits n) encode_table
      (λ t fits. (table_bytes n t fits few, table_passes n t fits place, table_read n t fits)),
)

pub clause_bodies : ClauseBodies
clause_bodies n place = (
  body_encoded (clauses_checks n place) clauses_of (ClausesFit n) encode_sheet (sheet_fits n place),
  λ few.
      body_read (clauses_checks n place) clauses_of (ClausesFit n) encode_sheet
      (λ cs fits. (sheet_bytes n few cs fits, sheet_passes n few cs fits place, sheet_read n few cs fits)),
)

pub folder_bodies : FolderBodies
folder_bodies n below place = (
  body_encoded (folder_checks n below place) entries_of (FolderFits n below) encode_entries (folder_fits n below place),
  λ few low.
      body_read (folder_checks n below place) entries_of (FolderFits n below) encode_entries
      (λ es fits. (folder_bytes n below few es fits low, folder_passes n below few es fits place, folder_read n below few es fits)),
)
