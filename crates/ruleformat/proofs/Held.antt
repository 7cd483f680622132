-- The contents that the records so far hold, with the bytes that encode them, and one record more of each kind.
use Rattle.std.proofs.Common.{◌≡◌, ℕ, zero, suc, ◌<◌, ◌≤◌, false, eqb, List, [], ◌∷◌, ◌++◌, length, get_or, sym, refl, ap, ◌∙◌, subst, arith}
use Rattle.std.specs.List.{flat_map}
use Rattle.std.proofs.lemmas.List.{append_assoc, append-nil, flat_map_more, length_push}
use Rattle.std.proofs.lemmas.Bool.{eqb-true, leb-false, not-false}
use Rattle.refusals.specs.declared.fault.FileFault.TheVariants.{Sheet, Folder}
use Rattle.ruleformat.specs.Clauses.{clauses_checks, clauses_of, with_clauses}
use Rattle.ruleformat.specs.Contents.{Contents, Table, nothing, rules, sheets}
use Rattle.ruleformat.specs.Encoding.{encode, encode_clauses, encode_entries, encode_folders, encode_record, encode_sheet, encode_start, encode_table, encode_tables}
use Rattle.ruleformat.specs.Folders.{entries_of, folder_checks, with_folder}
use Rattle.ruleformat.specs.Kinds.{out_of_turn, unknown}
use Rattle.ruleformat.specs.Laws.{Byte}
use Rattle.ruleformat.specs.Reading.{body_checks, with_question, with_record}
use Rattle.ruleformat.specs.Records.{one_too_many}
use Rattle.ruleformat.specs.Starts.{start_checks, with_start}
use Rattle.ruleformat.specs.Tables.{table_checks, table_of, with_table}
use Rattle.ruleformat.specs.WellFormed.{ClausesFit, Each, FolderFits, FoldersFit, TableFits, top}
use Rattle.ruleformat.proofs.Each.{each_append}
use Rattle.ruleformat.proofs.FitClauses.{sheet_fits}
use Rattle.ruleformat.proofs.FitFolder.{folder_fits}
use Rattle.ruleformat.proofs.FitStart.{StartFits, start_fits}
use Rattle.ruleformat.proofs.FitTable.{table_fits}
use Rattle.refusals.proofs.Passing.{Passing, passing_unwrapped}
use Rattle.ruleformat.proofs.Rules.{folders_push, rules_top}
use Rattle.ruleformat.proofs.Turns.{follows, known_kind}

-- the encoding of all but the question
abbrev encode_front : Contents → List ℕ
encode_front c = encode_start c ++ (encode_tables c.tables ++ (encode_clauses c.clauses ++ encode_folders c.folders))

-- The bytes before are those of records that hold c, the last of them of kind k.
pub record Held (k : ℕ) (c : Contents) (before : List ℕ) : Type 0 where
  pub start_fit : StartFits c.options c.start_yes c.start_no
  pub few_sheets : sheets c ≤ 32
  pub tables_fit : Each (TableFits c.options) c.tables
  pub clauses_fit : Each (ClausesFit c.options) c.clauses
  pub few_folders : length c.folders ≤ 4
  pub folders_fit : FoldersFit c.options (sheets c) c.folders
  pub no_clauses : k ≤ 2 → c.clauses ≡ []
  pub no_folders : k ≤ 3 → c.folders ≡ []
  pub partly : (k ≡ 5 → ⊥) → encode_front c ≡ before
  pub wholly : k ≡ 5 → (c.asked < top (sheets c) c.folders) × (encode c ≡ before)

joined_push : {X : Type 0} (f : X → List ℕ) (xs : List X) (x : X) → flat_map f (xs ++ x ∷ []) ≡ flat_map f xs ++ f x
joined_push f xs x = sym (flat_map_more f [] xs x)

at_tables : (s a r b d : List ℕ) → b ≡ [] → d ≡ [] → s ++ ((a ++ r) ++ (b ++ d)) ≡ (s ++ (a ++ (b ++ d))) ++ r
at_tables s a r b d p q = rw (p, q) (simp (append_assoc, append-nil))

at_clauses : (s a b r d : List ℕ) → d ≡ [] → s ++ (a ++ ((b ++ r) ++ d)) ≡ (s ++ (a ++ (b ++ d))) ++ r
at_clauses s a b r d q = rw q (simp (append_assoc, append-nil))

at_folders : (s a b d r : List ℕ) → s ++ (a ++ (b ++ (d ++ r))) ≡ (s ++ (a ++ (b ++ d))) ++ r
at_folders s a b d r = simp append_assoc

-- One record more, of each kind but the start.
module _ (k : ℕ) (c : Contents) (before : List ℕ) (held : Held k c before) (unasked : k ≡ 5 → ⊥) where
  with_table_held : (b : List ℕ) → k ≤ 2 → sheets c < 32 → TableFits c.options (table_of b) → encode_table (table_of b) ≡ b → Held 2 (with_table b c) (before ++ encode_record 2 b)
  with_table_held b l room fits e =
      let t : Table = table_of b in
      let p : c.clauses ≡ [] = held.no_clauses l in
      let q : c.folders ≡ [] = held.no_folders (omega arith) in
      record {
        start_fit = held.start_fit;
        few_sheets = omega (arith, length_push c.tables t);
        tables_fit = each_append (TableFits c.options) c.tables (t ∷ []) held.tables_fit (fits, tt);
        clauses_fit = held.clauses_fit;
        few_folders = held.few_folders;
        folders_fit = subst (λ fs. FoldersFit c.options (sheets (with_table b c)) fs) (sym q) tt;
        no_clauses = λ _. p;
        no_folders = λ _. q;
        partly =
            λ _.
            ap (λ ys. encode_start c ++ (ys ++ (encode_clauses c.clauses ++ encode_folders c.folders)))
            (joined_push (λ u. encode_record 2 (encode_table u)) c.tables t)
            ∙ at_tables (encode_start c) (encode_tables c.tables) (encode_record 2 (encode_table t)) (encode_clauses c.clauses)
            (encode_folders c.folders) (ap encode_clauses p) (ap encode_folders q)
            ∙ ap (λ ys. ys ++ encode_record 2 (encode_table t)) (held.partly unasked)
            ∙ ap (λ ys. before ++ encode_record 2 ys) e;
        wholly = λ z. absurd (omega arith);
      }

  with_clauses_held : (b : List ℕ) → k ≤ 3 → sheets c < 32 → ClausesFit c.options (clauses_of b) → encode_sheet (clauses_of b) ≡ b → Held 3 (with_clauses b c) (before ++ encode_record 3 b)
  with_clauses_held b l room fits e =
      let q : c.folders ≡ [] = held.no_folders l in
      record {
        start_fit = held.start_fit;
        few_sheets = omega (arith, length_push c.clauses (clauses_of b));
        tables_fit = held.tables_fit;
        clauses_fit = each_append (ClausesFit c.options) c.clauses (clauses_of b ∷ []) held.clauses_fit (fits, tt);
        few_folders = held.few_folders;
        folders_fit = subst (λ fs. FoldersFit c.options (sheets (with_clauses b c)) fs) (sym q) tt;
        no_clauses = λ z. absurd (omega arith);
        no_folders = λ _. q;
        partly =
            λ _.
            ap (λ ys. encode_start c ++ (encode_tables c.tables ++ (ys ++ encode_folders c.folders)))
            (joined_push (λ cs. encode_record 3 (encode_sheet cs)) c.clauses (clauses_of b))
            ∙ at_clauses (encode_start c) (encode_tables c.tables) (encode_clauses c.clauses)
            (encode_record 3 (encode_sheet (clauses_of b))) (encode_folders c.folders) (ap encode_folders q)
            ∙ ap (λ ys. ys ++ encode_record 3 (encode_sheet (clauses_of b))) (held.partly unasked)
            ∙ ap (λ ys. before ++ encode_record 3 ys) e;
        wholly = λ z. absurd (omega arith);
      }

  with_folder_held : (b : List ℕ) → length c.folders < 4 → FolderFits c.options (rules c) (entries_of b) → encode_entries (entries_of b) ≡ b → Held 4 (with_folder b c) (before ++ encode_record 4 b)
  with_folder_held b room fits e =
      record {
        start_fit = held.start_fit;
        few_sheets = held.few_sheets;
        tables_fit = held.tables_fit;
        clauses_fit = held.clauses_fit;
        few_folders = omega (arith, length_push c.folders (entries_of b));
        folders_fit =
            folders_push c.options (sheets c) c.folders (entries_of b) held.folders_fit
            (subst (λ m. FolderFits c.options m (entries_of b)) (rules_top c) fits);
        no_clauses = λ z. absurd (omega arith);
        no_folders = λ z. absurd (omega arith);
        partly =
            λ _.
            ap (λ ys. encode_start c ++ (encode_tables c.tables ++ (encode_clauses c.clauses ++ ys)))
            (joined_push (λ es. encode_record 4 (encode_entries es)) c.folders (entries_of b))
            ∙ at_folders (encode_start c) (encode_tables c.tables) (encode_clauses c.clauses) (encode_folders c.folders)
            (encode_record 4 (encode_entries (entries_of b)))
            ∙ ap (λ ys. ys ++ encode_record 4 (encode_entries (entries_of b))) (held.partly unasked)
            ∙ ap (λ ys. before ++ encode_record 4 ys) e;
        wholly = λ z. absurd (omega arith);
      }

  with_question_held : (b : List ℕ) → get_or b 0 0 ∷ [] ≡ b → get_or b 0 0 < rules c → Held 5 (with_question b c) (before ++ encode_record 5 b)
  with_question_held b e a =
      record {
        start_fit = held.start_fit;
        few_sheets = held.few_sheets;
        tables_fit = held.tables_fit;
        clauses_fit = held.clauses_fit;
        few_folders = held.few_folders;
        folders_fit = held.folders_fit;
        no_clauses = λ z. absurd (omega arith);
        no_folders = λ z. absurd (omega arith);
        partly = λ z. absurd (z refl);
        wholly =
            λ _. (
              subst (λ m. get_or b 0 0 < m) (rules_top c) a,
              at_folders (encode_start c) (encode_tables c.tables) (encode_clauses c.clauses) (encode_folders c.folders)
                  (encode_record 5 (get_or b 0 0 ∷ []))
                  ∙ ap (λ ys. ys ++ encode_record 5 (get_or b 0 0 ∷ [])) (held.partly unasked)
                  ∙ ap (λ ys. before ++ encode_record 5 ys) e,
            );
      }

-- the start, before which there is nothing
begun : (place : ℕ) (b : List ℕ) → Each Byte b → Passing (start_checks place b) → Held 1 (with_start b nothing) (encode_record 1 b)
begun place b bytes h =
    let r = start_fits place b bytes h in
    record {
      start_fit = r.0;
      few_sheets = omega arith;
      tables_fit = tt;
      clauses_fit = tt;
      few_folders = omega arith;
      folders_fit = tt;
      no_clauses = λ _. refl;
      no_folders = λ _. refl;
      partly = λ _. append-nil (encode_start (with_start b nothing)) ∙ ap (encode_record 1) r.1;
      wholly = λ z. absurd (omega arith);
    }

one_byte : (b : List ℕ) → length b ≡ 1 → get_or b 0 0 ∷ [] ≡ b
one_byte [] h = absurd (omega arith)
one_byte (x ∷ []) h = refl
one_byte (x ∷ y ∷ b) h = absurd (omega arith)

-- a record of kind j with the body b, after one of kind k
module _ (k place : ℕ) (c : Contents) (before b : List ℕ) (some : 1 ≤ k) (held : Held k c before) (bytes : Each Byte b) where
  pub one_more : (j : ℕ) → unknown j ≡ false → out_of_turn k j ≡ false → one_too_many (sheets c) (length c.folders) j ≡ false → Passing (body_checks j place b c) → Held j (with_record j b c) (before ++ encode_record j b)
  one_more zero known turn room h = absurd (omega (arith, (known_kind 0 known).0))
  one_more (suc zero) known turn room h = absurd ((follows k 1 some turn).1 refl)
  one_more (suc (suc zero)) known turn room h =
      let t = follows k 2 some turn in
      let r = table_fits c.options place b bytes (passing_unwrapped Sheet (table_checks c.options place b) h) in
      with_table_held k c before held t.0 b t.2 (leb-false 32 (sheets c) room) r.0 r.1
  one_more (suc (suc (suc zero))) known turn room h =
      let t = follows k 3 some turn in
      let r = sheet_fits c.options place b bytes (passing_unwrapped Sheet (clauses_checks c.options place b) h) in
      with_clauses_held k c before held t.0 b t.2 (leb-false 32 (sheets c) room) r.0 r.1
  one_more (suc (suc (suc (suc zero)))) known turn room h =
      let t = follows k 4 some turn in
      let r = folder_fits c.options (rules c) place b bytes (passing_unwrapped Folder (folder_checks c.options (rules c) place b) h) in
      with_folder_held k c before held t.0 b (leb-false 4 (length c.folders) room) r.0 r.1
  one_more (suc (suc (suc (suc (suc zero))))) known turn room h =
      let t = follows k 5 some turn in
      let l = eqb-true (length b) 1 (not-false (eqb (length b) 1) h.0) in
      with_question_held k c before held t.0 b (one_byte b l) (leb-false (rules c) (get_or b 0 0) h.1.0)
  one_more (suc (suc (suc (suc (suc (suc j)))))) known turn room h =
      absurd (omega (arith, (known_kind (suc (suc (suc (suc (suc (suc j)))))) known).1))

-- a record of kind 1 with the body b, before any other
pub started : (j place : ℕ) (b : List ℕ) → Each Byte b → j ≡ 1 → Passing (body_checks j place b nothing) → Held j (with_record j b nothing) (encode_record j b)
started zero place b bytes e h = absurd (omega arith)
started (suc zero) place b bytes e h = begun place b bytes h
started (suc (suc j)) place b bytes e h = absurd (omega arith)
