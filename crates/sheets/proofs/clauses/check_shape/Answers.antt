-- A fit clause is passed over whole.
use Rattle.std.proofs.Common.{◌≡◌, ◌+◌, ◌<◌, List, ℕ, length, sym, ap, ◌∙◌, subst, arith}
use Rattle.std.proofs.lemmas.Bool.{eqb-false}
use Rattle.std.specs.List.{list_any}
use Rattle.ruleformat.specs.Clauses.{clause_pieces, clause_size, unfit_clause}
use Rattle.ruleformat.proofs.Pieces.{pieces_more}
use Rattle.sheets.proofs.clauses.check_shape.Goals as goal

pub loop-preserved : goal.loop-preserved
loop-preserved c =
    let xs = c.loop.rest.now in
    let some : 0 < length xs = omega (arith, eqb-false (length xs) 0 (sym c.if-is_empty.ensures)) in
    let more = pieces_more clause_size xs some (omega arith) in
    let h = c.in-Some.ensures in
    let Kept : List ℕ → Type 0 =
    λ ys.
    (list_any unfit_clause (clause_pieces ys) ≡ list_any unfit_clause (clause_pieces c.args.body.bytes.now))
    × ((c.loop.counter + 1) + length (clause_pieces ys) ≡ length (clause_pieces c.args.body.bytes.now)) in
    subst Kept (sym h.2)
    (simp h.0 at (sym (ap (list_any unfit_clause) more)) ∙ c.loop.invariant.0, omega (arith, ap length more))
