-- What is left of the clauses adds as the whole does.
use Rattle.std.proofs.Common.{◌≡◌}
use Rattle.ruleformat.specs.Clauses.{clauses_of}
use Rattle.sheet_rules.specs.ClauseReply.{add_clauses}
use Rattle.sheet_rules.proofs.clause.ClauseSheetSheetRule.reply.Given as goal

abbrev pub invariant-loop-clause : goal.invariant-loop-clause
invariant-loop-clause l =
    (goal.iterator-loop-clause).can_next l.clause-iterator
    × (goal.iterator-loop-clause).is_finite l.clause-iterator
    × (add_clauses l.question (clauses_of l.clause-iterator.rest.now) l.reply
    ≡ add_clauses l.question (clauses_of l.initial.clause-iterator.rest.now) l.initial.reply)
