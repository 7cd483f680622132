-- What is left of the columns adds as the whole does.
use Rattle.std.proofs.Common.{◌≡◌, drop}
use Rattle.sheet_rules.specs.Gathered.{add_common}
use Rattle.sheet_rules.proofs.common.Common.add_to.Given as goal

abbrev pub invariant-loop-column : goal.invariant-loop-column
invariant-loop-column l =
    add_common (drop l.column-index l.columns) l.common l.reply ≡ add_common l.columns l.initial.common l.initial.reply
