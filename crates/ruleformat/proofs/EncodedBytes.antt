-- The encoding of well-formed contents is a list of bytes.
use Rattle.std.proofs.Common.{ℕ, ◌<◌, ◌≤◌, List, [], ◌∷◌, ◌++◌, length, arith}
use Rattle.entries.specs.declared.entry.Entry.{Entry}
use Rattle.ruleformat.specs.Contents.{Contents, sheets}
use Rattle.ruleformat.specs.Encoding.{bytes_of, encode, encode_clauses, encode_entries, encode_folders, encode_record, encode_sheet, encode_start, encode_table, encode_tables, start_body}
use Rattle.ruleformat.specs.Laws.{Byte}
use Rattle.ruleformat.specs.WellFormed.{ClausesFit, Each, FoldersFit, TableFits, WellFormed}
use Rattle.ruleformat.proofs.Each.{each_append, each_joined, each_map}
use Rattle.ruleformat.proofs.EncodedClauses.{sheet_bytes}
use Rattle.ruleformat.proofs.EncodedFolder.{folder_bytes}
use Rattle.ruleformat.proofs.EncodedStart.{start_bytes}
use Rattle.ruleformat.proofs.EncodedTable.{table_bytes}
use Rattle.ruleformat.proofs.Numbers.{bytes_each}
use Rattle.ruleformat.proofs.Rules.{top_few}

record_bytes : (k : ℕ) (b : List ℕ) → Each Byte b → Each Byte (encode_record k b)
record_bytes k b h =
    each_append Byte (bytes_of 2 (length b)) (bytes_of 2 k ++ b) (bytes_each 2 (length b))
    (each_append Byte (bytes_of 2 k) b (bytes_each 2 k) h)

folders_bytes : (n below : ℕ) (fs : List (List Entry)) → n ≤ 64 → below ≤ 32 → FoldersFit n below fs → Each Byte (encode_folders fs)
folders_bytes n below [] few low h = tt
folders_bytes n below (f ∷ fs) few low h =
    each_append Byte (encode_record 4 (encode_entries f)) (encode_folders fs)
    (record_bytes 4 (encode_entries f) (folder_bytes n below few f h.0 low))
    (folders_bytes n (length f) fs few h.0.few_entries h.1)

module _ (c : Contents) (fine : WellFormed c) where
  tables_bytes : Each Byte (encode_tables c.tables)
  tables_bytes =
      each_joined Byte (λ t. encode_record 2 (encode_table t)) c.tables
      (each_map (TableFits c.options) (λ t. Each Byte (encode_record 2 (encode_table t))) c.tables
      (λ t h. record_bytes 2 (encode_table t) (table_bytes c.options t h fine.few_options)) fine.tables_fit)

  clauses_bytes : Each Byte (encode_clauses c.clauses)
  clauses_bytes =
      each_joined Byte (λ s. encode_record 3 (encode_sheet s)) c.clauses
      (each_map (ClausesFit c.options) (λ s. Each Byte (encode_record 3 (encode_sheet s))) c.clauses
      (λ s h. record_bytes 3 (encode_sheet s) (sheet_bytes c.options fine.few_options s h)) fine.clauses_fit)

  pub encode_bytes : Each Byte (encode c)
  encode_bytes =
      let question = encode_record 5 (c.asked ∷ []) in
      let after_clauses = encode_folders c.folders ++ question in
      let after_tables = encode_clauses c.clauses ++ after_clauses in
      let asked_small : c.asked < 256 = omega (arith, top_few c.options (sheets c) c.folders fine.few_sheets fine.folders_fit, fine.asked_known) in
      each_append Byte (encode_start c) (encode_tables c.tables ++ after_tables) (record_bytes 1 (start_body c) (start_bytes c fine))
      (each_append Byte (encode_tables c.tables) after_tables tables_bytes
      (each_append Byte (encode_clauses c.clauses) after_clauses clauses_bytes
      (each_append Byte (encode_folders c.folders) question
      (folders_bytes c.options (sheets c) c.folders fine.few_options fine.few_sheets fine.folders_fit)
      (record_bytes 5 (c.asked ∷ []) (asked_small, tt)))))
