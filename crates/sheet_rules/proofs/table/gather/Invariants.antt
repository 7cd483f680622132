-- What is left of the rows gathers as the whole does, for any columns and question that the masks are of.
use Rattle.std.proofs.Common.{◌≡◌, ℕ, List}
use Rattle.assignment.specs.declared.assignment.Assignment.{Assignment}
use Rattle.ruleformat.specs.Tables.{rows_in}
use Rattle.sheet_rules.specs.Agreement.{agreeing}
use Rattle.sheet_rules.specs.Gathered.{gathered}
use Rattle.sheet_rules.specs.Marks.{known_of}
use Rattle.sheet_rules.proofs.table.gather.Given as goal

abbrev pub invariant-loop-row : goal.invariant-loop-row
invariant-loop-row l =
    (goal.iterator-loop-row).can_next l.row-iterator
    × (goal.iterator-loop-row).is_finite l.row-iterator
    × ((cs : List ℕ) (a : Assignment) → l.known ≡ known_of cs a
    → gathered l.common (agreeing cs (rows_in l.row-iterator.rest.now) a)
    ≡ gathered l.initial.common (agreeing cs (rows_in l.initial.row-iterator.rest.now) a))
