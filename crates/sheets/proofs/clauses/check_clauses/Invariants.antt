-- What is left of the clauses decides as the whole does.
use Rattle.std.proofs.Common.{◌≡◌}
use Rattle.std.specs.Iterator.Adapters.{enumerate_count, enumerate_source}
use Rattle.refusals.specs.Checks.{judged}
use Rattle.ruleformat.specs.Clauses.{clause_checks, clause_pieces}
use Rattle.sheets.proofs.clauses.check_clauses.Given as goal

abbrev pub invariant-loop-item : goal.invariant-loop-item
invariant-loop-item l =
    (goal.iterator-loop-item).can_next l.item-iterator
    × (goal.iterator-loop-item).is_finite l.item-iterator
    × (judged (clause_checks l.options l.body.place (enumerate_count l.item-iterator) (clause_pieces (enumerate_source l.item-iterator).rest.now)) (tt {0})
    ≡ judged (clause_checks l.options l.body.place 0 (clause_pieces l.body.bytes.now)) (tt {0}))
