-- With no draft all rules are carried, which changes nothing.
use Rattle.std.proofs.Common.{sym, ap, ◌∙◌}
use Rattle.entries.specs.Drafts.{drafted}
use Rattle.folders.specs.Folders.{folder}
use Rattle.rulestack.specs.Laid.{laid}
use Rattle.rulestack.proofs.Layers.{carried}
use Rattle.rulestack.proofs.building.lay.Goals as goal

pub returns-in-Some : goal.returns-in-Some
returns-in-Some g c =
    let m = g.R.RuleSet.meaning c.args.below in
    let over = c.lay.result.below in
    ap (λ d. folder (drafted d) (g.R.RuleSet.meaning over)) c.lay.ensures.draft
    ∙ ap (λ r. folder (drafted c.in-Some.draft) (g.R.RuleSet.meaning r)) c.lay.ensures.below
    ∙ sym (ap (λ o. laid o m) c.in-Some.is)

pub returns-in-None : goal.returns-in-None
returns-in-None g c =
    let m = g.R.RuleSet.meaning c.args.below in
    let over = c.lay-in-None.result.below in
    ap (λ d. folder (drafted d) (g.R.RuleSet.meaning over)) c.lay-in-None.ensures.draft
    ∙ ap (λ r. folder (drafted c.carry_all-carried.result) (g.R.RuleSet.meaning r)) c.lay-in-None.ensures.below
    ∙ ap (λ es. folder es m) c.carry_all-carried.ensures
    ∙ carried m (g.R.RuleSet.lawful c.args.below) c.requires ∙ sym (ap (λ o. laid o m) c.in-None.is)
