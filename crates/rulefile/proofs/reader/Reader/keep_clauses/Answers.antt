-- A sheet that is refused is refused as its checks say; one that passes is the last.
use Rattle.std.proofs.Common.{vec_items, sym}
use Rattle.std.proofs.lemmas.Result.{err_from_is_err_and}
use Rattle.refusals.specs.declared.fault.FileFault.TheVariants.{Sheet}
use Rattle.ruleformat.specs.Clauses.{clauses_checks, clauses_of, with_clauses}
use Rattle.rulefile.specs.Held.{held, kept}
use Rattle.sheets.specs.Views.{clause_body}
use Rattle.rulefile.proofs.Parts.{part_kept, part_refused}
use Rattle.rulefile.proofs.reader.Reader.keep_clauses.Goals as goal

pub returns-in_err-sheet : goal.returns-in_err-sheet
returns-in_err-sheet c =
    let r = c.args.self in
    let body = c.args.body.bytes.now in
    let p = err_from_is_err_and c.from_residual.result c.from_residual.ensures.1 in
    rw (p.1, p.2)
    (part_refused Sheet (clauses_checks r.file.parts.options c.args.body.place body) body (kept 3 (with_clauses body (held r))) c.in_err-sheet.field-0.0 (sym c.in_err-sheet.ensures))

pub returns : goal.returns
returns c =
    let r = c.args.self in
    let body = c.args.body.bytes.now in
    part_kept (λ part. kept 3 (record (held r) { clauses = part })) clauses_of clause_body Sheet
    (clauses_checks r.file.parts.options c.args.body.place body) (vec_items r.file.parts.clauses) (vec_items c.push_reserved.new.self)
    c.in_ok-sheet.sheet body c.push_reserved.ensures.items (sym c.in_ok-sheet.ensures)
