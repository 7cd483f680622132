-- Each call has fewer options.
use Rattle.std.proofs.Common.{length}
use Rattle.ruleset.proofs.search.+has_leaf.Given as goal

abbrev pub decreases-has_leaf : goal.decreases-has_leaf
decreases-has_leaf g l = length l.options.now
