-- The first clause, and those that follow it.
use Rattle.std.proofs.Common.{ap, sym, ◌∙◌, ◌∷◌, arith}
use Rattle.ruleformat.specs.Clauses.{clause_pieces, clause_size}
use Rattle.ruleformat.proofs.Pieces.{pieces_more}
use Rattle.sheets.proofs.walk.ClausesIterator.next.Goals as goal

pub returns-clause-steps : goal.returns-clause-steps
returns-clause-steps c =
    let rest = c.args.self.now.rest.now in
    let h = c.in_ok-wanted.ensures in
    (pieces_more clause_size rest h.0 (omega arith) ∙ ap (λ ys. rest ∷ clause_pieces ys) (sym h.2), h.1)
