-- What is left of the clauses is as fit as the whole, and with the clauses passed as many.
use Rattle.std.proofs.Common.{◌≡◌, ◌+◌, length}
use Rattle.std.specs.List.{list_any}
use Rattle.ruleformat.specs.Clauses.{clause_pieces, unfit_clause}
use Rattle.sheets.proofs.clauses.check_shape.Given as goal

abbrev pub invariant-loop : goal.invariant-loop
invariant-loop l =
    (list_any unfit_clause (clause_pieces l.rest) ≡ list_any unfit_clause (clause_pieces l.body.bytes.now))
    × (l.counter + length (clause_pieces l.rest) ≡ length (clause_pieces l.body.bytes.now))
