-- A folder's record: entries of twelve bytes.
use Rattle.std.specs.Prelude.{ℕ, ◌+◌, ◌%◌, Bool, not, ◌||◌, List, [], ◌∷◌, ◌++◌, map, length, take, drop, ◌==◌, nat_lt, slice_index}
use Rattle.refusals.specs.Checks.{Check, when, within}
use Rattle.refusals.specs.declared.fault.FolderFault.{FolderFault}
use Rattle.refusals.specs.declared.fault.FolderFault.TheVariants.{Record, Entry as entry_fault}
use Rattle.refusals.specs.declared.refusal.Refusal.{Refusal}
use Rattle.refusals.specs.declared.refusal.Refusal.TheVariants.{Unfit}
use Rattle.entries.specs.Fields.{entry_of, entry_checks}
use Rattle.entries.specs.declared.entry.Entry.{Entry}
use Rattle.entries.specs.declared.fields.EntryFields.{EntryFields}
use Rattle.ruleformat.specs.Bytes.{number, pieces}
use Rattle.ruleformat.specs.Contents.{Contents}
use Rattle.ruleformat.specs.Records.{at}

abbrev pub fields_of : List ℕ → EntryFields
fields_of rest =
    record {
      op = slice_index rest 0;
      first = slice_index rest 1;
      second = slice_index rest 2;
      third = slice_index rest 3;
      word = number (take 8 (drop 4 rest));
    }

abbrev pub entry_size : List ℕ → ℕ
entry_size rest = 12

abbrev pub entry_pieces : List ℕ → List (List ℕ)
entry_pieces body = pieces entry_size 0 body

abbrev pub entry_in : List ℕ → Entry
entry_in rest = entry_of (fields_of rest)

abbrev pub entries_of : List ℕ → List Entry
entries_of body = map entry_in (entry_pieces body)

-- no entry, more than 32, or one that is cut
abbrev pub unfit_folder : List ℕ → Bool
unfit_folder body = length body == 0 || (nat_lt 384 (length body) || not (length body % 12 == 0))

abbrev pub at_entry : (place i : ℕ) → Refusal → FolderFault
at_entry place i r = entry_fault r place i

-- entries from the one with number i on, with n options over a count of rules below
abbrev pub entries_checks : (n below place i : ℕ) → List (List ℕ) → List (Check FolderFault)
entries_checks n below place i [] = []
entries_checks n below place i (rest ∷ rests) =
    within (at_entry place i) (entry_checks n below (fields_of rest)) ++ entries_checks n below place (i + 1) rests

abbrev pub folder_checks : (n below place : ℕ) → List ℕ → List (Check FolderFault)
folder_checks n below place body =
    when (unfit_folder body) (Record (at Unfit place)) ∷ entries_checks n below place 0 (entry_pieces body)

abbrev pub with_folder : List ℕ → Contents → Contents
with_folder body c =
    record {
      options = c.options;
      start_yes = c.start_yes;
      start_no = c.start_no;
      tables = c.tables;
      clauses = c.clauses;
      folders = c.folders ++ entries_of body ∷ [];
      asked = c.asked;
    }
