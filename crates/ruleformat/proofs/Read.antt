-- The encoding of well-formed contents reads back as those contents: the walk over its records.
use Rattle.std.proofs.Common.{◌≡◌, ℕ, ◌+◌, ◌<◌, ◌≤◌, List, [], ◌∷◌, ◌++◌, length, Ok, sym, refl, ap, ◌∙◌, subst, append_assoc, append-nil, arith}
use Rattle.std.proofs.lemmas.List.{length_push}
use Rattle.std.proofs.lemmas.Bool.{le-ltb, lt-leb}
use Rattle.refusals.specs.Checks.{within}
use Rattle.refusals.specs.declared.fault.FileFault.TheVariants.{Sheet, Folder}
use Rattle.entries.specs.declared.entry.Entry.{Entry}
use Rattle.ruleformat.specs.Clauses.{clauses_checks}
use Rattle.ruleformat.specs.Contents.{Contents, Table, Wanted, nothing, rules, sheets}
use Rattle.ruleformat.specs.Encoding.{encode, encode_clauses, encode_entries, encode_folders, encode_record, encode_sheet, encode_table, encode_tables, start_body}
use Rattle.ruleformat.specs.Folders.{folder_checks}
use Rattle.ruleformat.specs.Laws.{EncodedIsAccepted}
use Rattle.ruleformat.specs.Reading.{checks, contents}
use Rattle.ruleformat.specs.Tables.{table_checks}
use Rattle.ruleformat.specs.WellFormed.{ClausesFit, Each, FoldersFit, TableFits, WellFormed}
use Rattle.ruleformat.proofs.EncodedBytes.{encode_bytes}
use Rattle.ruleformat.proofs.EncodedClauses.{sheet_length, sheet_passes, sheet_read}
use Rattle.ruleformat.proofs.EncodedFolder.{folder_length, folder_passes, folder_read}
use Rattle.ruleformat.proofs.EncodedStart.{so_far, start_passes, start_read}
use Rattle.ruleformat.proofs.EncodedTable.{table_length, table_passes, table_read}
use Rattle.refusals.proofs.Passing.{Passing, passing_accepts, passing_within}
use Rattle.ruleformat.proofs.Rules.{rules_top, top_push}
use Rattle.ruleformat.proofs.Turns.{may_follow}
use Rattle.ruleformat.proofs.Walk.{Fits, Reads, reads_record}

-- the rules that come next are the last folder's entries
rules_push : (c : Contents) (ts : List Table) (cs : List (List (List Wanted))) (fs : List (List Entry)) (f : List Entry) → rules (so_far c ts cs (fs ++ f ∷ [])) ≡ length f
rules_push c ts cs fs f = rules_top (so_far c ts cs (fs ++ f ∷ [])) ∙ top_push (length ts + length cs) fs f

module _ (total : ℕ) (c : Contents) (few : c.options ≤ 64) where
  reads_tables : (before : ℕ) (done ts : List Table) (tail : List ℕ) → 1 ≤ before → before ≤ 2 → length done + length ts ≤ 32 → Each (TableFits c.options) ts → ((k : ℕ) → 1 ≤ k → k ≤ 2 → Reads total k (so_far c (done ++ ts) [] []) tail c) → Reads total before (so_far c done [] []) (encode_tables ts ++ tail) c
  reads_tables before done [] tail lo hi room h next =
      subst (λ us. Reads total before (so_far c us [] []) tail c) (append-nil done) (next before lo hi)
  reads_tables before done (t ∷ ts) tail lo hi room h next =
      let n = c.options in
      let now = so_far c done [] [] in
      let b = encode_table t in
      let fits : Fits before now 2 b =
      record {
        short = omega (arith, table_length n t h.0, h.0.few_columns, h.0.few_rows);
        known = refl;
        in_turn = may_follow before 2 lo (omega arith) (omega arith) hi;
        room = lt-leb 32 (sheets now) (omega arith);
        body_passes = λ place. passing_within Sheet (table_checks n place b) (table_passes n t h.0 place);
      } in
      subst (λ bs. Reads total before now bs c) (sym (append_assoc (encode_record 2 b) (encode_tables ts) tail))
      (reads_record total before now c 2 b (encode_tables ts ++ tail) fits
      (subst (λ u. Reads total 2 (so_far c (done ++ u ∷ []) [] []) (encode_tables ts ++ tail) c) (sym (table_read n t h.0))
      (reads_tables 2 (done ++ t ∷ []) ts tail (omega arith) (omega arith) (omega (arith, length_push done t)) h.1
      (λ k low high. subst (λ us. Reads total k (so_far c us [] []) tail c) (sym (append_assoc done (t ∷ []) ts)) (next k low high)))))

  reads_clauses : (before : ℕ) (done ss : List (List (List Wanted))) (tail : List ℕ) → 1 ≤ before → before ≤ 3 → length c.tables + (length done + length ss) ≤ 32 → Each (ClausesFit c.options) ss → ((k : ℕ) → 1 ≤ k → k ≤ 3 → Reads total k (so_far c c.tables (done ++ ss) []) tail c) → Reads total before (so_far c c.tables done []) (encode_clauses ss ++ tail) c
  reads_clauses before done [] tail lo hi room h next =
      subst (λ us. Reads total before (so_far c c.tables us []) tail c) (append-nil done) (next before lo hi)
  reads_clauses before done (s ∷ ss) tail lo hi room h next =
      let n = c.options in
      let now = so_far c c.tables done [] in
      let b = encode_sheet s in
      let fits : Fits before now 3 b =
      record {
        short = omega (arith, sheet_length n few s h.0);
        known = refl;
        in_turn = may_follow before 3 lo (omega arith) (omega arith) hi;
        room = lt-leb 32 (sheets now) (omega arith);
        body_passes = λ place. passing_within Sheet (clauses_checks n place b) (sheet_passes n few s h.0 place);
      } in
      subst (λ bs. Reads total before now bs c) (sym (append_assoc (encode_record 3 b) (encode_clauses ss) tail))
      (reads_record total before now c 3 b (encode_clauses ss ++ tail) fits
      (subst (λ u. Reads total 3 (so_far c c.tables (done ++ u ∷ []) []) (encode_clauses ss ++ tail) c) (sym (sheet_read n few s h.0))
      (reads_clauses 3 (done ++ s ∷ []) ss tail (omega arith) (omega arith) (omega (arith, length_push done s)) h.1
      (λ k low high. subst (λ us. Reads total k (so_far c c.tables us []) tail c) (sym (append_assoc done (s ∷ []) ss)) (next k low high)))))

  -- below is the count of rules that the next folder may name
  reads_folders : (before below : ℕ) (done fs : List (List Entry)) (tail : List ℕ) → 1 ≤ before → before ≤ 4 → length done + length fs ≤ 4 → below ≡ rules (so_far c c.tables c.clauses done) → FoldersFit c.options below fs → ((k : ℕ) → 1 ≤ k → k ≤ 4 → Reads total k (so_far c c.tables c.clauses (done ++ fs)) tail c) → Reads total before (so_far c c.tables c.clauses done) (encode_folders fs ++ tail) c
  reads_folders before below done [] tail lo hi room e h next =
      subst (λ us. Reads total before (so_far c c.tables c.clauses us) tail c) (append-nil done) (next before lo hi)
  reads_folders before below done (f ∷ fs) tail lo hi room e h next =
      let n = c.options in
      let now = so_far c c.tables c.clauses done in
      let b = encode_entries f in
      let fits : Fits before now 4 b =
      record {
        short = omega (arith, folder_length f, h.0.few_entries);
        known = refl;
        in_turn = may_follow before 4 lo hi (omega arith) hi;
        room = lt-leb 4 (length done) (omega arith);
        body_passes =
            λ place.
            subst (λ m. Passing (within Folder (folder_checks n m place b))) e
            (passing_within Folder (folder_checks n below place b) (folder_passes n below few f h.0 place));
      } in
      subst (λ bs. Reads total before now bs c) (sym (append_assoc (encode_record 4 b) (encode_folders fs) tail))
      (reads_record total before now c 4 b (encode_folders fs ++ tail) fits
      (subst (λ u. Reads total 4 (so_far c c.tables c.clauses (done ++ u ∷ [])) (encode_folders fs ++ tail) c)
      (sym (folder_read n below few f h.0))
      (reads_folders 4 (length f) (done ++ f ∷ []) fs tail (omega arith) (omega arith) (omega (arith, length_push done f))
      (sym (rules_push c c.tables c.clauses done f)) h.1
      (λ k low high. subst (λ us. Reads total k (so_far c c.tables c.clauses us) tail c) (sym (append_assoc done (f ∷ []) fs)) (next k low high)))))

  reads_question : (before : ℕ) → 1 ≤ before → before ≤ 4 → c.asked < rules c → Reads total before (so_far c c.tables c.clauses c.folders) (encode_record 5 (c.asked ∷ [])) c
  reads_question before lo hi known =
      let now = so_far c c.tables c.clauses c.folders in
      let b = c.asked ∷ [] in
      let fits : Fits before now 5 b =
      record {
        short = omega arith;
        known = refl;
        in_turn = may_follow before 5 lo hi (omega arith) (omega arith);
        room = refl;
        body_passes = λ place. (refl, (lt-leb (rules c) c.asked known, tt));
      } in
      reads_record total before now c 5 b [] fits (record { passing = (refl, tt); held = refl })

reads_encoding : (total : ℕ) (c : Contents) → WellFormed c → Reads total 0 nothing (encode c) c
reads_encoding total c fine =
    let question = encode_record 5 (c.asked ∷ []) in
    let after_clauses = encode_folders c.folders ++ question in
    let after_tables = encode_clauses c.clauses ++ after_clauses in
    let after_start = encode_tables c.tables ++ after_tables in
    let few = fine.few_options in
    let fits : Fits 0 nothing 1 (start_body c) =
    record {
      short = omega arith;
      known = refl;
      in_turn = refl;
      room = refl;
      body_passes = start_passes c fine;
    } in
    reads_record total 0 nothing c 1 (start_body c) after_start fits
    (subst (λ d. Reads total 1 d after_start c) (sym (start_read c fine))
    (reads_tables total c few 1 [] c.tables after_tables (omega arith) (omega arith) (omega (arith, fine.few_sheets)) fine.tables_fit
    (λ k low high.
    reads_clauses total c few k [] c.clauses after_clauses low (omega arith) (omega (arith, fine.few_sheets)) fine.clauses_fit
    (λ j lower higher.
    reads_folders total c few j (sheets c) [] c.folders question lower (omega arith) (omega (arith, fine.few_folders)) refl
    fine.folders_fit (λ i lowest highest. reads_question total c few i lowest highest (subst (λ m. c.asked < m) (sym (rules_top c)) fine.asked_known))))))

pub encoded_is_accepted : EncodedIsAccepted
encoded_is_accepted c fine =
    let walk = reads_encoding (length (encode c)) c fine in (
      encode_bytes c fine,
      passing_accepts (checks (encode c)) (contents (encode c)) (le-ltb 32768 (length (encode c)) fine.short, walk.passing)
          ∙ ap Ok walk.held,
    )
