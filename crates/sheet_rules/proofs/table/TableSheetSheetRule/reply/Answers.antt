-- The reply by what the agreeing rows have in common.
use Rattle.std.proofs.Common.{sym, ap, ◌∙◌}
use Rattle.std.proofs.lemmas.Bool.{cond-true}
use Rattle.assignment.specs.Lattice.{contradiction, inconsistent}
use Rattle.sheet_rules.specs.Agreement.{agreeing}
use Rattle.sheet_rules.specs.Gathered.{add_common, reply_with}
use Rattle.sheet_rules.specs.RuleSets.{table_in}
use Rattle.sheet_rules.specs.TableReply.{reply_by, table_reply}
use Rattle.sheet_rules.proofs.Gathering.{reply_gathered}
use Rattle.sheet_rules.proofs.TableAdds.{consistent_reply}
use Rattle.sheet_rules.proofs.table.TableSheetSheetRule.reply.Goals as goal

pub returns-then-is_inconsistent : goal.returns-then-is_inconsistent
unfolding table_reply
returns-then-is_inconsistent c =
    let question = c.args.question in
    let t = table_in c.args.self.now in
    let other = reply_by t.columns (agreeing t.columns t.rows question) question in
    c.contradiction.ensures.answer
    ∙ sym (cond-true (inconsistent question) contradiction other (sym c.if-is_inconsistent.ensures.answer))

pub returns-in-None : goal.returns-in-None
returns-in-None c =
    let question = c.args.question in
    let t = table_in c.args.self.now in
    let none = ap (λ d. reply_with t.columns d question) (sym c.in-None.is ∙ c.gather.ensures) in
    c.contradiction-in-None.ensures.answer ∙ none
    ∙ sym (reply_gathered t.columns (agreeing t.columns t.rows question) question)
    ∙ sym (consistent_reply t question (sym c.if-is_inconsistent.ensures.answer))

pub returns-in-Some : goal.returns-in-Some
returns-in-Some c =
    let question = c.args.question in
    let t = table_in c.args.self.now in
    let found = ap (λ d. reply_with t.columns d question) (sym c.in-Some.is ∙ c.gather.ensures) in
    c.add_to.ensures ∙ ap (λ cs. add_common cs c.in-Some.common question) c.columns.ensures ∙ found
    ∙ sym (reply_gathered t.columns (agreeing t.columns t.rows question) question)
    ∙ sym (consistent_reply t question (sym c.if-is_inconsistent.ensures.answer))
