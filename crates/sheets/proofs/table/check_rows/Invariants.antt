-- The rows that are left decide as all of them do.
use Rattle.std.proofs.Common.{◌≡◌, ◌*◌, drop}
use Rattle.refusals.specs.Checks.{judged}
use Rattle.ruleformat.specs.Tables.{row_checks, rows_in}
use Rattle.sheets.proofs.table.check_rows.Given as goal

abbrev pub invariant-loop-item : goal.invariant-loop-item
invariant-loop-item l =
    judged (row_checks l.columns l.place l.item (rows_in (drop (2 * l.item) l.rows))) (tt {0})
    ≡ judged (row_checks l.columns l.place 0 (rows_in l.rows)) (tt {0})
