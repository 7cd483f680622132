-- A table sheet's record: the number of columns, the columns, then rows of two bytes.
use Rattle.std.specs.Prelude.{ℕ, ◌+◌, ◌-◌, ◌%◌, ◌^◌, Bool, ◌||◌, List, [], ◌∷◌, ◌++◌, map, length, take, drop, ◌==◌, nat_le, nat_lt, slice_index}
use Rattle.refusals.specs.Checks.{Check, when}
use Rattle.refusals.specs.declared.fault.SheetFault.{SheetFault}
use Rattle.refusals.specs.declared.fault.SheetFault.TheVariants.{Record, Item}
use Rattle.refusals.specs.declared.refusal.Refusal.TheVariants.{Unfit, BeyondOptions, Conflict, OutOfRange}
use Rattle.ruleformat.specs.Bytes.{two, pieces}
use Rattle.ruleformat.specs.Contents.{Contents, Table}
use Rattle.ruleformat.specs.Records.{at}

abbrev pub width : List ℕ → ℕ
width body = slice_index body 0

abbrev pub columns_of : List ℕ → List ℕ
columns_of body = take (width body) (drop 1 body)

abbrev pub row_of : List ℕ → ℕ
row_of rest = two rest 0

abbrev pub row_size : List ℕ → ℕ
row_size rest = 2

abbrev pub rows_in : List ℕ → List ℕ
rows_in bytes = map row_of (pieces row_size 0 bytes)

abbrev pub rows_of : List ℕ → List ℕ
rows_of body = rows_in (drop (1 + width body) body)

abbrev pub table_of : List ℕ → Table
table_of body = record { columns = columns_of body; rows = rows_of body }

-- the columns are not 1 to 16 or not all there, a row is cut, or there are more than 256 rows
abbrev pub unfit_table : List ℕ → Bool
unfit_table body =
    (width body == 0)
    || (nat_lt 16 (width body)
    || (nat_lt (length body) (1 + width body)
    || ((length body - (1 + width body)) % 2 == 1 || nat_lt 512 (length body - (1 + width body)))))

-- columns from the one with number i on; the least that may come next is `low`
abbrev pub column_checks : (n place i low : ℕ) → List ℕ → List (Check SheetFault)
column_checks n place i low [] = []
column_checks n place i low (c ∷ cs) =
    when (nat_le n c) (Item BeyondOptions place i) ∷ when (nat_lt c low) (Item Conflict place i)
    ∷ column_checks n place (i + 1) (c + 1) cs

-- rows from the one with number i on, over w columns
abbrev pub row_checks : (w place i : ℕ) → List ℕ → List (Check SheetFault)
row_checks w place i [] = []
row_checks w place i (r ∷ rs) = when (nat_le (2 ^ w) r) (Item OutOfRange place i) ∷ row_checks w place (i + 1) rs

abbrev pub table_checks : (n place : ℕ) → List ℕ → List (Check SheetFault)
table_checks n place body =
    when (unfit_table body) (Record (at Unfit place))
    ∷ (column_checks n place 0 0 (columns_of body) ++ row_checks (width body) place 0 (rows_of body))

abbrev pub with_table : List ℕ → Contents → Contents
with_table body c =
    record {
      options = c.options;
      start_yes = c.start_yes;
      start_no = c.start_no;
      tables = c.tables ++ table_of body ∷ [];
      clauses = c.clauses;
      folders = c.folders;
      asked = c.asked;
    }
