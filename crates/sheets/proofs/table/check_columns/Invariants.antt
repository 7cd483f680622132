-- What is left of the columns decides as the whole does.
use Rattle.std.proofs.Common.{◌≡◌, drop}
use Rattle.refusals.specs.Checks.{judged}
use Rattle.ruleformat.specs.Tables.{column_checks}
use Rattle.sheets.proofs.table.check_columns.Given as goal

abbrev pub invariant-loop-item : goal.invariant-loop-item
invariant-loop-item l =
    judged (column_checks l.options l.fn.place l.item-counter l.low (drop l.item-counter l.columns)) (tt {0})
    ≡ judged (column_checks l.options l.fn.place 0 0 l.columns) (tt {0})
