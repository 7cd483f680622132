-- Where the tree has a leaf, some filling is a build, and so some build fits.
use Rattle.ruleset.specs.Meaning.{lawful_rule}
use Rattle.ruleset.proofs.Finding.{found}
use Rattle.ruleset.proofs.search.finds_build.Goals as goal

pub returns : goal.returns
returns g c =
    let lawful = lawful_rule (g.R.RuleSet.lawful c.args.rules.now) c.args.rule in
    let all = found _ lawful c.args.options.now c.args.known c.has_leaf.result c.has_leaf.ensures.answer in
    record { answer = all.answer; fills = all.fills; builds = all.builds; same = c.has_leaf.ensures.same }
