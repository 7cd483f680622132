-- What is left of the wanted values decides as the whole does.
use Rattle.std.proofs.Common.{◌≡◌, drop}
use Rattle.refusals.specs.Checks.{judged}
use Rattle.ruleformat.specs.Clauses.{wanted_checks}
use Rattle.sheets.proofs.clauses.check_wanted.Given as goal

abbrev pub invariant-loop-byte : goal.invariant-loop-byte
invariant-loop-byte l =
    judged (wanted_checks l.options l.fn.place l.fn.item l.low (drop l.byte-index l.wanted)) (tt {0})
    ≡ judged (wanted_checks l.options l.fn.place l.fn.item 0 l.wanted) (tt {0})
