-- A sheet that is refused is refused as its checks say; one that passes is the last.
use Rattle.std.proofs.Common.{vec_items, sym}
use Rattle.std.proofs.lemmas.Result.{err_from_is_err_and}
use Rattle.refusals.specs.declared.fault.FileFault.TheVariants.{Sheet}
use Rattle.ruleformat.specs.Tables.{table_checks, table_of, with_table}
use Rattle.rulefile.specs.Held.{held, kept}
use Rattle.sheets.specs.Views.{table_body}
use Rattle.rulefile.proofs.Parts.{part_kept, part_refused}
use Rattle.rulefile.proofs.reader.Reader.keep_table.Goals as goal

pub returns-in_err-sheet : goal.returns-in_err-sheet
returns-in_err-sheet c =
    let r = c.args.self in
    let body = c.args.body.bytes.now in
    let p = err_from_is_err_and c.from_residual.result c.from_residual.ensures.1 in
    rw (p.1, p.2)
    (part_refused Sheet (table_checks r.file.parts.options c.args.body.place body) body (kept 2 (with_table body (held r))) c.in_err-sheet.field-0.0 (sym c.in_err-sheet.ensures))

pub returns : goal.returns
returns c =
    let r = c.args.self in
    let body = c.args.body.bytes.now in
    part_kept (λ part. kept 2 (record (held r) { tables = part })) table_of table_body Sheet
    (table_checks r.file.parts.options c.args.body.place body) (vec_items r.file.parts.tables) (vec_items c.push_reserved.new.self)
    c.in_ok-sheet.sheet body c.push_reserved.ensures.items (sym c.in_ok-sheet.ensures)
