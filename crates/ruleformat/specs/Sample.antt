-- The sample file of docs/FORMAT.md: what it holds, and how it is refused with one change.
use Rattle.std.specs.Prelude.{◌≡◌, ℕ, true, false, List, [], ◌∷◌, ◌++◌, take, Ok, Err, slice_set}
use Rattle.refusals.specs.declared.fault.FileFault.TheVariants.{Record, Start, Sheet, Folder, Question}
use Rattle.refusals.specs.declared.fault.FolderFault.TheVariants as folder
use Rattle.refusals.specs.declared.fault.SheetFault.TheVariants as sheet
use Rattle.refusals.specs.declared.refusal.Refusal.TheVariants.{Cut, UnknownKind, OutOfTurn, Unfit, BeyondOptions, Conflict, OutOfRange, NoSuchRule, Unfinished}
use Rattle.entries.specs.declared.entry.Entry.TheVariants.{Product}
use Rattle.ruleformat.specs.Contents.{Contents, Wanted}
use Rattle.ruleformat.specs.Encoding.{encode}
use Rattle.ruleformat.specs.Reading.{reading}
use Rattle.ruleformat.specs.Records.{at}

-- from byte 0, 21, 34, 44 and 60 on
abbrev sample_start : List ℕ
sample_start = 17 ∷ 0 ∷ 1 ∷ 0 ∷ 4 ∷ 0 ∷ 0 ∷ 0 ∷ 0 ∷ 0 ∷ 0 ∷ 0 ∷ 0 ∷ 0 ∷ 0 ∷ 0 ∷ 0 ∷ 0 ∷ 0 ∷ 0 ∷ 0 ∷ []

abbrev sample_table : List ℕ
sample_table = 9 ∷ 0 ∷ 2 ∷ 0 ∷ 2 ∷ 0 ∷ 1 ∷ 0 ∷ 0 ∷ 2 ∷ 0 ∷ 3 ∷ 0 ∷ []

abbrev sample_clauses : List ℕ
sample_clauses = 6 ∷ 0 ∷ 3 ∷ 0 ∷ 2 ∷ 2 ∷ 3 ∷ 2 ∷ 1 ∷ 130 ∷ []

abbrev sample_folder : List ℕ
sample_folder = 12 ∷ 0 ∷ 4 ∷ 0 ∷ 1 ∷ 0 ∷ 1 ∷ 0 ∷ 0 ∷ 0 ∷ 0 ∷ 0 ∷ 0 ∷ 0 ∷ 0 ∷ 0 ∷ []

abbrev sample_question : List ℕ
sample_question = 1 ∷ 0 ∷ 5 ∷ 0 ∷ 0 ∷ []

abbrev pub sample : List ℕ
sample = sample_start ++ (sample_table ++ (sample_clauses ++ (sample_folder ++ sample_question)))

-- an option that is wanted yes, and one that is wanted no
abbrev yes : ℕ → Wanted
yes o = record { option = o; negated = false }

abbrev no : ℕ → Wanted
no o = record { option = o; negated = true }

abbrev pub sample_contents : Contents
sample_contents =
    record {
      options = 4;
      start_yes = 0;
      start_no = 0;
      tables = record { columns = 0 ∷ 1 ∷ []; rows = 0 ∷ 2 ∷ 3 ∷ [] } ∷ [];
      clauses = ((yes 2 ∷ yes 3 ∷ []) ∷ (yes 1 ∷ no 2 ∷ []) ∷ []) ∷ [];
      folders = (Product 0 1 ∷ []) ∷ [];
      asked = 0;
    }

-- the sample with byte i made b
abbrev changed : ℕ → ℕ → List ℕ
changed i b = slice_set sample i b

-- it is read and encoded; with a change it is refused with the fault of the first check that holds
pub record Sample : Type 0 where
  pub sample_read : reading sample ≡ Ok sample_contents
  pub sample_encoded : encode sample_contents ≡ sample
  pub empty : reading [] ≡ Err (Record (at Unfinished 0))
  pub no_question : reading (take 60 sample) ≡ Err (Record (at Unfinished 60))
  pub last_byte_missing : reading (take 64 sample) ≡ Err (Record (at Cut 60))
  pub one_byte_more : reading (sample ++ 0 ∷ []) ≡ Err (Record (at Cut 65))
  pub second_question : reading (sample ++ sample_question) ≡ Err (Record (at OutOfTurn 65))
  pub kind_six : reading (changed 23 6) ≡ Err (Record (at UnknownKind 21))
  pub many_options : reading (changed 4 65) ≡ Err (Start OutOfRange 0)
  pub no_option : reading (changed 4 0) ≡ Err (Start OutOfRange 0)
  pub half_a_row : reading (changed 21 8) ≡ Err (Sheet (sheet.Record (at Unfit 21)))
  pub same_column : reading (changed 27 0) ≡ Err (Sheet (sheet.Item Conflict 21 1))
  pub far_column : reading (changed 27 4) ≡ Err (Sheet (sheet.Item BeyondOptions 21 1))
  pub wide_row : reading (changed 32 7) ≡ Err (Sheet (sheet.Item OutOfRange 21 2))
  pub far_value : reading (changed 43 132) ≡ Err (Sheet (sheet.Item BeyondOptions 34 1))
  pub no_such_sheet : reading (changed 50 2) ≡ Err (Folder (folder.Entry NoSuchRule 44 0))
  pub no_such_entry : reading (changed 64 1) ≡ Err (Question NoSuchRule 60)
