-- What a rule file holds.
use Rattle.std.specs.Prelude.{ℕ, ◌+◌, ◌-◌, Bool, cond, List, [], length, ◌==◌, slice_index_or}
use Rattle.entries.specs.declared.entry.Entry.{Entry}

-- columns are options, and bit i of a row is set where column i is yes
pub record Table : Type 0 where
  pub columns : List ℕ
  pub rows : List ℕ

-- an option, and whether it is wanted no
pub record Wanted : Type 0 where
  pub option : ℕ
  pub negated : Bool

-- Options are numbered from 0 to `options` - 1; bit i of the start's masks speaks of option i.
-- The sheets are the rules 0, 1, .. : the tables first, then the clause sheets. A folder's entries are its rules.
pub record Contents : Type 0 where
  pub options : ℕ
  pub start_yes : ℕ
  pub start_no : ℕ
  pub tables : List Table
  pub clauses : List (List (List Wanted))
  pub folders : List (List Entry)
  pub asked : ℕ

-- before any record
abbrev pub nothing : Contents
nothing = record { options = 0; start_yes = 0; start_no = 0; tables = []; clauses = []; folders = []; asked = 0 }

abbrev pub sheets : Contents → ℕ
sheets c = length c.tables + length c.clauses

-- the rules that the next folder, or the question, may name: the last folder's entries, or the sheets where there is none
abbrev pub rules : Contents → ℕ
rules c =
    cond (length c.folders == 0) (sheets c) (length (slice_index_or c.folders (length c.folders - 1) []))
