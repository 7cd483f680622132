-- The laws of the search tree.
use Rattle.ruleset.proofs.FillingLaws.{fills_builds, search_fills}
use Rattle.ruleset.proofs.Listings.{tree_lists}
use Rattle.ruleset.proofs.TreeLaws.{tree_law}
use Rattle.ruleset.proofs.search.tree_laws.Goals as goal

pub returns : goal.returns
returns c = record { branches = tree_law; lists = tree_lists; fills = fills_builds; finds = search_fills }
