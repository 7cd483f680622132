-- First the shape decides, then the clauses.
use Rattle.std.proofs.Common.{[], sym, ◌∙◌}
use Rattle.std.proofs.lemmas.Result.{err_from_is_err_and}
use Rattle.refusals.specs.Checks.{when}
use Rattle.refusals.specs.declared.refusal.Refusal.TheVariants.{Unfit}
use Rattle.refusals.proofs.Judged.{judged_err, judged_head, judged_ok}
use Rattle.ruleformat.specs.Clauses.{clause_checks, clause_pieces, unfit_clauses}
use Rattle.ruleformat.specs.Records.{at}
use Rattle.sheets.proofs.clauses.ClauseSheetSheet.read.Goals as goal

pub returns-in_err-check_clauses : goal.returns-in_err-check_clauses
returns-in_err-check_clauses c =
    let body = c.args.body.bytes.now in
    let shape = judged_head (when (unfit_clauses body) (at Unfit c.args.body.place)) [] (tt {0}) tt (sym c.check_shape.ensures ∙ c.in_ok-check_shape.was) in
    let clauses = clause_checks c.args.options c.args.body.place 0 (clause_pieces body) in
    let e = judged_err (tt {0}) body clauses c.in_err-check_clauses.field-0.0 (sym c.check_clauses.ensures ∙ c.in_err-check_clauses.was) in
    let p = err_from_is_err_and c.from_residual-in_err-check_clauses.result c.from_residual-in_err-check_clauses.ensures.1 in
    rw (p.1, p.2, shape) (sym e)

pub returns : goal.returns
returns c =
    let body = c.args.body.bytes.now in
    let shape = judged_head (when (unfit_clauses body) (at Unfit c.args.body.place)) [] (tt {0}) tt (sym c.check_shape.ensures ∙ c.in_ok-check_shape.was) in
    let clauses = clause_checks c.args.options c.args.body.place 0 (clause_pieces body) in
    let e = judged_ok (tt {0}) body clauses tt (sym c.check_clauses.ensures ∙ c.in_ok-check_clauses.was) in
    rw shape (sym e)
