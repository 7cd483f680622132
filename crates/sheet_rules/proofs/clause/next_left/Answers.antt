-- A lost value is passed over, and the first other one is the answer.
use Rattle.std.proofs.Common.{◌≡◌, true, false, List, ◌∷◌, map, sym, ap, ◌∙◌}
use Rattle.std.proofs.lemmas.Bool.{cond-false, cond-true}
use Rattle.assignment.specs.declared.assignment.Assignment.{Assignment}
use Rattle.ruleformat.specs.Clauses.{wanted_of}
use Rattle.ruleformat.specs.Contents.{Wanted}
use Rattle.sheets.specs.Views.{wanted_view}
use Rattle.sheet_rules.specs.Lost.{left, lost}
use Rattle.sheet_rules.proofs.clause.next_left.Goals as goal

passed_over : (a : Assignment) (w : Wanted) (ws : List Wanted) → lost a w ≡ true → left a (w ∷ ws) ≡ left a ws
unfolding left
passed_over a w ws e = cond-true (lost a w) (left a ws) (w ∷ left a ws) e

found : (a : Assignment) (w : Wanted) (ws : List Wanted) → lost a w ≡ false → left a (w ∷ ws) ≡ w ∷ left a ws
unfolding left
found a w ws e = cond-false (lost a w) (left a ws) (w ∷ left a ws) e

pub returns-then-not-knows : goal.returns-then-not-knows
returns-then-not-knows c =
    let question = c.args.question in
    sym c.loop-wanted.invariant.2 ∙ ap (left question) c.in-Some.ensures.steps
    ∙ found question (wanted_view c.in-Some.wanted) (map wanted_of c.next.new.self.rest.now) (sym c.if-not-knows.ensures)

pub loop-wanted-preserved : goal.loop-wanted-preserved
loop-wanted-preserved c =
    let question = c.args.question in
    let rest = map wanted_of c.next.new.self.rest.now in (
      tt,
      tt,
      sym (passed_over question (wanted_view c.in-Some.wanted) rest (sym c.if-not-knows.ensures))
          ∙ sym (ap (left question) c.in-Some.ensures.steps) ∙ c.loop-wanted.invariant.2,
    )

pub returns : goal.returns
unfolding left
returns c = sym c.loop-wanted.invariant.2 ∙ ap (left c.args.question) c.in_default.ensures.steps.0
