-- A rule that is there is that of its sheet.
use Rattle.std.proofs.Common.{◌≡◌, ◌<◌, ◌≤◌, List, length, get_or, vec_items, refl, ◌∙◌, subst}
use Rattle.sheet_rules.proofs.OfSheets.{no_sheet_replies, sheet_replies}
use Rattle.sheet_rules.proofs.rules.SheetRulesRuleSet.propagate.Goals as goal

pub returns-in-None : goal.returns-in-None
returns-in-None g c =
    let k = c.args.rule in
    let sheets = vec_items c.args.self.now.sheets in
    let past : length sheets ≤ k = subst (λ xs. length xs ≤ k) c.deref.ensures.value c.in-None.ensures.lookup.3 in
    record {
      answer =
          c.contradiction-in-None.ensures.answer
          ∙ no_sheet_replies g.S.SheetRule.rule_of g.S.SheetBody.body_of sheets k c.if-rule-ge64.false c.args.question past;
      same = refl;
    }

pub returns-in-Some : goal.returns-in-Some
returns-in-Some g c =
    let k = c.args.rule in
    let sheets = vec_items c.args.self.now.sheets in
    let sheet = c.in-Some.sheet.now in
    let There : List g.row.S.Denot → Type 0 = λ xs. (k < length xs) × (sheet ≡ get_or xs k sheet) in
    let found = c.in-Some.ensures.lookup in
    let there : There sheets = subst There c.deref.ensures.value (found.3.0, found.1) in
    record {
      answer =
          c.reply.ensures
          ∙ sheet_replies g.S.SheetRule.rule_of g.S.SheetBody.body_of sheets k c.if-rule-ge64.false c.args.question sheet there.0 there.1;
      same = refl;
    }
