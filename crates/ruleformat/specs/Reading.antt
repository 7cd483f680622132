-- Reading a rule file: all checks as one list in their order, and what the file holds where none of them holds.
use Rattle.std.specs.Prelude.{ℕ, ◌-◌, not, List, [], ◌∷◌, ◌++◌, length, Result, ◌==◌, nat_le, nat_lt, slice_index}
use Rattle.refusals.specs.Checks.{Check, when, judged, within}
use Rattle.refusals.specs.declared.fault.FileFault.{FileFault}
use Rattle.refusals.specs.declared.fault.FileFault.TheVariants.{Record, Sheet, Folder, Question}
use Rattle.refusals.specs.declared.refusal.Refusal.TheVariants.{TooLong, Unfit, NoSuchRule, Unfinished}
use Rattle.ruleformat.specs.Clauses.{clauses_checks, with_clauses}
use Rattle.ruleformat.specs.Contents.{Contents, nothing, sheets, rules}
use Rattle.ruleformat.specs.Folders.{folder_checks, with_folder}
use Rattle.ruleformat.specs.Kinds.{by_kind}
use Rattle.ruleformat.specs.Records.{at, body, head_checks, kind, records}
use Rattle.ruleformat.specs.Starts.{start_checks, with_start}
use Rattle.ruleformat.specs.Tables.{table_checks, with_table}

abbrev pub question_checks : (below place : ℕ) → List ℕ → List (Check FileFault)
question_checks below place body =
    when (not (length body == 1)) (Record (at Unfit place)) ∷ when (nat_le below (slice_index body 0)) (Question NoSuchRule place)
    ∷ []

abbrev pub with_question : List ℕ → Contents → Contents
with_question body c =
    record {
      options = c.options;
      start_yes = c.start_yes;
      start_no = c.start_no;
      tables = c.tables;
      clauses = c.clauses;
      folders = c.folders;
      asked = slice_index body 0;
    }

-- what the records so far hold, and one record more
abbrev pub with_record : (kind : ℕ) → List ℕ → Contents → Contents
with_record k body c =
    by_kind k (with_start body c) (with_table body c) (with_clauses body c) (with_folder body c) (with_question body c)

-- the checks of a body of kind k, after records that hold c
abbrev pub body_checks : (kind place : ℕ) → List ℕ → Contents → List (Check FileFault)
body_checks k place body c =
    by_kind k (start_checks place body) (within Sheet (table_checks c.options place body))
    (within Sheet (clauses_checks c.options place body))
    (within Folder (folder_checks c.options (rules c) place body)) (question_checks (rules c) place body)

abbrev pub record_checks : (before place : ℕ) → List ℕ → Contents → List (Check FileFault)
record_checks before place rest c =
    within Record (head_checks before (sheets c) (length c.folders) place rest)
    ++ body_checks (kind rest) place (body rest) c

-- The checks of the records that are left, in a file of `total` bytes, after a record of the kind before and records
-- that hold c. A record's place is the number of bytes before it. Checks after the first that holds never decide, so it
-- makes no difference what they find in a file that is refused before them.
abbrev pub checks_from : (total before : ℕ) → Contents → List (List ℕ) → List (Check FileFault)
checks_from total before c [] = when (not (before == 5)) (Record (at Unfinished total)) ∷ []
checks_from total before c (rest ∷ rests) =
    record_checks before (total - length rest) rest c
    ++ checks_from total (kind rest) (with_record (kind rest) (body rest) c) rests

abbrev pub held_from : Contents → List (List ℕ) → Contents
held_from c [] = c
held_from c (rest ∷ rests) = held_from (with_record (kind rest) (body rest) c) rests

-- every check of a file, in order
abbrev pub checks : List ℕ → List (Check FileFault)
checks bytes =
    when (nat_lt 32768 (length bytes)) (Record (at TooLong 0)) ∷ checks_from (length bytes) 0 nothing (records bytes)

-- what the records of a file hold
abbrev pub contents : List ℕ → Contents
contents bytes = held_from nothing (records bytes)

-- the first check that holds refuses the file; where none does, it is read
abbrev pub reading : List ℕ → Result Contents FileFault
reading bytes = judged (checks bytes) (contents bytes)
