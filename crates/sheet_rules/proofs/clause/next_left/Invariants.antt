-- The values passed so far were lost.
use Rattle.std.proofs.Common.{◌≡◌, map}
use Rattle.ruleformat.specs.Clauses.{wanted_of}
use Rattle.sheet_rules.specs.Lost.{left}
use Rattle.sheet_rules.proofs.clause.next_left.Given as goal

abbrev pub invariant-loop-wanted : goal.invariant-loop-wanted
invariant-loop-wanted l =
    (goal.iterator-loop-wanted).can_next l.values
    × (goal.iterator-loop-wanted).is_finite l.values
    × (left l.question (map wanted_of l.values.rest.now) ≡ left l.question (map wanted_of l.initial.values.rest.now))
