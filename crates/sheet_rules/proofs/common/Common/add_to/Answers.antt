-- One column adds its value, and leaves it to the columns that follow.
use Rattle.std.proofs.Common.{◌+◌, drop, sym, ap, ◌∙◌, ap₂}
use Rattle.std.proofs.lemmas.List.{at_drop_all, at_drop_more}
use Rattle.sheet_rules.specs.Gathered.{add_common, add_first}
use Rattle.sheet_rules.proofs.common.Common.add_to.Goals as goal

pub loop-column-preserved : goal.loop-column-preserved
unfolding add_common
loop-column-preserved c =
    let columns = c.args.columns.now in
    let l = c.loop-column in
    let e = at_drop_more (λ xs. add_common xs l.common l.reply) columns l.column-index 0 c.loop-column-test.true in
    ap₂ (add_common (drop (l.column-index + 1) columns)) c.halved-common.ensures (c.add_first-reply.ensures ∙ ap (λ o. add_first o l.common l.reply) c.from.ensures)
    ∙ sym e ∙ l.invariant

pub returns : goal.returns
unfolding add_common
returns c =
    let l = c.loop-column in
    sym (at_drop_all (λ xs. add_common xs l.common l.reply) c.args.columns.now l.column-index c.loop-column-test.false)
    ∙ l.invariant
