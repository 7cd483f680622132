-- The masks are gathered from the last column on.
use Rattle.std.proofs.Common.{ℕ, ap, ◌∙◌, rules}
use Rattle.std.proofs.lemmas.Iterator.Adapters.{YieldsList-from_rev_slice}
use Rattle.std.proofs.lemmas.Iterator.Consumers.{fold_from_yields_List}
use Rattle.std.specs.Slice.Iter.{iter_rest}
use Rattle.sheet_rules.specs.Marks.{led_by}
use Rattle.sheet_rules.specs.declared.known.Known.{Known}
use Rattle.sheet_rules.proofs.MarkedRows.{known_fold}
use Rattle.sheet_rules.proofs.known.Known.of.Goals as goal

pub returns : goal.returns
returns c =
    let columns = c.args.columns.now in
    let step : Known → ℕ → Known = λ k o. led_by o c.args.question k in
    fold_from_yields_List _ step (record { yes = 0; no = 0 }) c.fold.result c.fold.ensures.ran
    (YieldsList-from_rev_slice columns (ap iter_rest c.rev.ensures.source ∙ c.iter.ensures.rest))
    (λ a x b q k. search rules)
    ∙ known_fold columns c.args.question
