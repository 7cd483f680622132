-- The bytes that stand for contents. Numbers of several bytes are cut to their low bytes, and those of one byte are put as
-- they are, so an encoding is meant for well-formed contents only.
use Rattle.std.specs.Prelude.{ℕ, zero, suc, ◌+◌, ◌/◌, ◌%◌, cond, List, [], ◌∷◌, ◌++◌, map, length}
use Rattle.std.specs.List.{flat_map}
use Rattle.entries.specs.Accepts.{fields_for}
use Rattle.entries.specs.declared.entry.Entry.{Entry}
use Rattle.entries.specs.declared.fields.EntryFields.{EntryFields}
use Rattle.ruleformat.specs.Contents.{Contents, Table, Wanted}

-- a number as k bytes, the least byte first
abbrev pub bytes_of : (k : ℕ) → ℕ → List ℕ
bytes_of zero x = []
bytes_of (suc k) x = x % 256 ∷ bytes_of k (x / 256)

abbrev pub encode_record : (kind : ℕ) → List ℕ → List ℕ
encode_record k body = bytes_of 2 (length body) ++ (bytes_of 2 k ++ body)

abbrev pub encode_table : Table → List ℕ
encode_table t = length t.columns ∷ (t.columns ++ flat_map (bytes_of 2) t.rows)

abbrev pub encode_wanted : Wanted → ℕ
encode_wanted w = cond w.negated (128 + w.option) w.option

abbrev pub encode_clause : List Wanted → List ℕ
encode_clause ws = length ws ∷ map encode_wanted ws

abbrev pub encode_sheet : List (List Wanted) → List ℕ
encode_sheet cs = flat_map encode_clause cs

abbrev pub encode_fields : EntryFields → List ℕ
encode_fields f = f.op ∷ f.first ∷ f.second ∷ f.third ∷ bytes_of 8 f.word

abbrev pub encode_entry : Entry → List ℕ
encode_entry e = encode_fields (fields_for e)

abbrev pub encode_entries : List Entry → List ℕ
encode_entries es = flat_map encode_entry es

abbrev pub start_body : Contents → List ℕ
start_body c = c.options ∷ (bytes_of 8 c.start_yes ++ bytes_of 8 c.start_no)

abbrev pub encode_start : Contents → List ℕ
encode_start c = encode_record 1 (start_body c)

abbrev pub encode_tables : List Table → List ℕ
encode_tables ts = flat_map (λ t. encode_record 2 (encode_table t)) ts

abbrev pub encode_clauses : List (List (List Wanted)) → List ℕ
encode_clauses ss = flat_map (λ cs. encode_record 3 (encode_sheet cs)) ss

abbrev pub encode_folders : List (List Entry) → List ℕ
encode_folders fs = flat_map (λ es. encode_record 4 (encode_entries es)) fs

abbrev pub encode : Contents → List ℕ
encode c =
    encode_start c
    ++ (encode_tables c.tables
    ++ (encode_clauses c.clauses ++ (encode_folders c.folders ++ encode_record 5 (c.asked ∷ []))))
