-- Which contents a rule file may hold. Nothing here speaks of bytes, but for the length of a file.
use Rattle.std.specs.Prelude.{◌≡◌, ℕ, ◌+◌, ◌^◌, ◌<◌, ◌≤◌, List, [], ◌∷◌, map, length, bit_and}
use Rattle.entries.specs.Accepts.{EntryFits}
use Rattle.entries.specs.declared.entry.Entry.{Entry}
use Rattle.ruleformat.specs.Contents.{Contents, Table, Wanted}
use Rattle.ruleformat.specs.Encoding.{encode}

-- what holds of each element of a list
abbrev pub Each : {X : Type 0} → (X → Type 0) → List X → Type 0
Each P [] = Unit {0}
Each P (x ∷ xs) = P x × Each P xs

-- options below n, none below `low`, each above the one before it
abbrev pub Rising : (n low : ℕ) → List ℕ → Type 0
Rising n low [] = Unit {0}
Rising n low (x ∷ xs) = (low ≤ x) × (x < n) × Rising n (x + 1) xs

-- 1 to 16 columns and up to 256 rows, which set no bit that stands for no column
pub record TableFits (n : ℕ) (t : Table) : Type 0 where
  pub some_column : 1 ≤ length t.columns
  pub few_columns : length t.columns ≤ 16
  pub rising : Rising n 0 t.columns
  pub few_rows : length t.rows ≤ 256
  pub in_columns : Each (λ r. r < 2 ^ length t.columns) t.rows

abbrev pub option : Wanted → ℕ
option w = w.option

-- 1 to 16 wanted values
pub record ClauseFits (n : ℕ) (ws : List Wanted) : Type 0 where
  pub some_value : 1 ≤ length ws
  pub few_values : length ws ≤ 16
  pub rising : Rising n 0 (map option ws)

-- up to 256 clauses
pub record ClausesFit (n : ℕ) (cs : List (List Wanted)) : Type 0 where
  pub few_clauses : length cs ≤ 256
  pub each_fits : Each (ClauseFits n) cs

-- 1 to 32 entries
pub record FolderFits (n below : ℕ) (es : List Entry) : Type 0 where
  pub some_entry : 1 ≤ length es
  pub few_entries : length es ≤ 32
  pub each_fits : Each (EntryFits n below) es

-- the first folder names rules among `below`, each other one entries of the folder before it
abbrev pub FoldersFit : (n below : ℕ) → List (List Entry) → Type 0
FoldersFit n below [] = Unit {0}
FoldersFit n below (f ∷ fs) = FolderFits n below f × FoldersFit n (length f) fs

-- how many rules the topmost folder has, or the sheets where there is no folder
abbrev pub top : ℕ → List (List Entry) → ℕ
top below [] = below
top below (f ∷ fs) = top (length f) fs

pub record WellFormed (c : Contents) : Type 0 where
  pub some_option : 1 ≤ c.options
  pub few_options : c.options ≤ 64
  pub yes_within : c.start_yes < 2 ^ c.options
  pub no_within : c.start_no < 2 ^ c.options
  pub consistent : bit_and c.start_yes c.start_no ≡ 0
  pub few_sheets : length c.tables + length c.clauses ≤ 32
  pub tables_fit : Each (TableFits c.options) c.tables
  pub clauses_fit : Each (ClausesFit c.options) c.clauses
  pub few_folders : length c.folders ≤ 4
  pub folders_fit : FoldersFit c.options (length c.tables + length c.clauses) c.folders
  pub asked_known : c.asked < top (length c.tables + length c.clauses) c.folders
  pub short : length (encode c) ≤ 32768
