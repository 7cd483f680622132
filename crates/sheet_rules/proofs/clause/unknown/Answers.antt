-- Both masks are empty.
use Rattle.assignment.specs.Lattice.{unknown}
use Rattle.assignment.specs.Laws.{masks_equal}
use Rattle.sheet_rules.proofs.clause.unknown.Goals as goal

pub returns : goal.returns
unfolding unknown
returns c = masks_equal c.new.result unknown c.new.ensures.yes c.new.ensures.no
