-- First the shape decides, then the columns, then the rows.
use Rattle.std.proofs.Common.{◌≡◌, ℕ, ◌+◌, false, List, length, drop, Ok, Err, sym, ap, ◌∙◌}
use Rattle.std.proofs.lemmas.Result.{err_from_is_err_and}
use Rattle.refusals.specs.Checks.{judged}
use Rattle.refusals.specs.declared.fault.SheetFault.{SheetFault}
use Rattle.refusals.proofs.Judged.{judged_err, judged_ok, judged_passes, judged_stops}
use Rattle.ruleformat.specs.Tables.{column_checks, columns_of, row_checks, rows_in, rows_of, table_checks, unfit_table, width}
use Rattle.sheets.proofs.table.TableSheetSheet.read.Goals as goal

-- a body that was split into columns and rows
module _ (n place : ℕ) (body columns rows : List ℕ) (fit : unfit_table body ≡ false) (front : columns ≡ columns_of body) (back : rows ≡ drop (1 + width body) body) (wide : length columns ≡ width body) where
  columns_stop : (e : SheetFault) → judged (column_checks n place 0 0 columns) (tt {0}) ≡ Err e → judged (table_checks n place body) body ≡ Err e
  columns_stop e h =
      rw fit
      (judged_stops (tt {0}) body (column_checks n place 0 0 (columns_of body)) (row_checks (width body) place 0 (rows_of body)) e
      (rw front at h))

  columns_pass : judged (column_checks n place 0 0 columns) (tt {0}) ≡ Ok tt → judged (table_checks n place body) body ≡ judged (row_checks (length columns) place 0 (rows_in rows)) body
  columns_pass h =
      rw fit
      (judged_passes (tt {0}) body (column_checks n place 0 0 (columns_of body)) (row_checks (width body) place 0 (rows_of body)) tt
      (rw front at h)
      ∙ ap (λ w. judged (row_checks w place 0 (rows_of body)) body) (sym wide)
      ∙ ap (λ ys. judged (row_checks (length columns) place 0 (rows_in ys)) body) (sym back))

pub returns-in_err-check_columns : goal.returns-in_err-check_columns
returns-in_err-check_columns c =
    let t = c.in_ok-columns.ensures in
    let e =
    columns_stop c.args.options c.args.body.place c.args.body.bytes.now c.in_ok-columns.columns.now c.in_ok-columns.rows.now t.0 t.1 t.2 t.3
    c.in_err-check_columns.field-0.0 (sym c.check_columns.ensures ∙ c.in_err-check_columns.was) in
    let p = err_from_is_err_and c.from_residual-in_err-check_columns.result c.from_residual-in_err-check_columns.ensures.1 in
    rw (p.1, p.2) (sym e)

pub returns-in_err-check_rows : goal.returns-in_err-check_rows
returns-in_err-check_rows c =
    let body = c.args.body.bytes.now in
    let t = c.in_ok-columns.ensures in
    let columns = c.in_ok-columns.columns.now in
    let rows = c.in_ok-columns.rows.now in
    let told = c.in_err-check_rows.field-0.0 in
    let e =
    columns_pass c.args.options c.args.body.place body columns rows t.0 t.1 t.2 t.3 (sym c.check_columns.ensures ∙ c.in_ok-check_columns.was)
    ∙ judged_err (tt {0}) body (row_checks (length columns) c.args.body.place 0 (rows_in rows)) told (sym c.check_rows.ensures ∙ c.in_err-check_rows.was) in
    let p = err_from_is_err_and c.from_residual-in_err-check_rows.result c.from_residual-in_err-check_rows.ensures.1 in
    rw (p.1, p.2) (sym e)

pub returns : goal.returns
returns c =
    let body = c.args.body.bytes.now in
    let t = c.in_ok-columns.ensures in
    let columns = c.in_ok-columns.columns.now in
    let rows = c.in_ok-columns.rows.now in
    sym
    (columns_pass c.args.options c.args.body.place body columns rows t.0 t.1 t.2 t.3 (sym c.check_columns.ensures ∙ c.in_ok-check_columns.was)
    ∙ judged_ok (tt {0}) body (row_checks (length columns) c.args.body.place 0 (rows_in rows)) tt (sym c.check_rows.ensures ∙ c.in_ok-check_rows.was))
