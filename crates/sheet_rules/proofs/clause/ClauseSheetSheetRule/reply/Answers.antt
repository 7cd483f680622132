-- One clause adds, and leaves it to the clauses that follow; where nothing is left of it the reply is the contradiction.
use Rattle.std.proofs.Common.{◌≡◌, ℕ, List, [], ◌∷◌, map, sym, ap, ◌∙◌}
use Rattle.std.proofs.lemmas.Bool.{cond-true}
use Rattle.assignment.specs.Lattice.{contradiction, inconsistent, join}
use Rattle.assignment.specs.Laws.{join_right, refines_equal, refines_trans, top_only}
use Rattle.assignment.specs.declared.assignment.Assignment.{Assignment}
use Rattle.ruleformat.specs.Clauses.{clause_of, clause_pieces, clauses_of, wanted_bytes, wanted_of}
use Rattle.ruleformat.specs.Contents.{Wanted}
use Rattle.sheet_rules.specs.ClauseReply.{add_clauses, add_clauses_above, added_by_clause, clauses_reply, forced}
use Rattle.sheet_rules.specs.Lost.{left}
use Rattle.sheet_rules.specs.RuleSets.{clauses_in}
use Rattle.sheet_rules.proofs.ClausesAdd.{consistent_reply}
use Rattle.sheet_rules.proofs.clause.ClauseSheetSheetRule.reply.Goals as goal

none_left : (asked : Assignment) (ws : List Wanted) (cs : List (List Wanted)) (a : Assignment) → left asked ws ≡ [] → add_clauses asked (ws ∷ cs) a ≡ contradiction
unfolding add_clauses
none_left asked ws cs a e =
    top_only
    (refines_trans (add_clauses_above asked cs (join a (added_by_clause asked ws)))
    (refines_trans (join_right a (added_by_clause asked ws)) (refines_equal (ap forced e))))

-- the first clause of those that are left, and the others
first_clause : (bytes clause rest : List ℕ) → clause_pieces bytes ≡ bytes ∷ clause_pieces rest → clause ≡ wanted_bytes bytes → clauses_of bytes ≡ map wanted_of clause ∷ clauses_of rest
first_clause bytes clause rest pieces is =
    ap (map clause_of) pieces ∙ ap (λ ws. map wanted_of ws ∷ clauses_of rest) (sym is)

pub returns-then-is_inconsistent : goal.returns-then-is_inconsistent
unfolding clauses_reply
returns-then-is_inconsistent c =
    let question = c.args.question in
    let other = add_clauses question (clauses_in c.args.self.now) question in
    c.contradiction.ensures.answer
    ∙ sym (cond-true (inconsistent question) contradiction other (sym c.if-is_inconsistent.ensures.answer))

pub returns-in_default : goal.returns-in_default
returns-in_default c =
    let question = c.args.question in
    let reply = c.loop-clause.reply in
    let rest = clauses_of c.next.new.self.rest.now in
    let clause = map wanted_of c.in-Some.clause.rest.now in
    let all = ap (λ it. it.rest.now) c.into_iter-clause-iterator.ensures.into_iter_gives ∙ c.clauses-clause-items.ensures in
    c.contradiction-in_default.ensures.answer ∙ sym (none_left question clause rest reply c.in_default.ensures)
    ∙ sym (ap (λ cs. add_clauses question cs reply) (first_clause c.loop-clause.clause-iterator.rest.now c.in-Some.clause.rest.now c.next.new.self.rest.now c.in-Some.ensures.steps.0 c.in-Some.ensures.steps.1)) ∙ c.loop-clause.invariant.2
    ∙ ap (λ body. add_clauses question (clauses_of body) question) all
    ∙ sym (consistent_reply (clauses_in c.args.self.now) question (sym c.if-is_inconsistent.ensures.answer))

pub loop-clause-preserved : goal.loop-clause-preserved
unfolding add_clauses
loop-clause-preserved c =
    let question = c.args.question in
    let reply = c.loop-clause.reply in
    let rest = clauses_of c.next.new.self.rest.now in
    let adds = c.join-reply.ensures.answer ∙ ap (join reply) c.in-Some-clause_adds.ensures in (
      tt,
      tt,
      ap (add_clauses question rest) adds
          ∙ sym (ap (λ cs. add_clauses question cs reply) (first_clause c.loop-clause.clause-iterator.rest.now c.in-Some.clause.rest.now c.next.new.self.rest.now c.in-Some.ensures.steps.0 c.in-Some.ensures.steps.1)) ∙ c.loop-clause.invariant.2,
    )

pub returns : goal.returns
unfolding add_clauses
returns c =
    let question = c.args.question in
    let all = ap (λ it. it.rest.now) c.into_iter-clause-iterator.ensures.into_iter_gives ∙ c.clauses-clause-items.ensures in
    sym (ap (λ cs. add_clauses question cs c.loop-clause.reply) (ap (map clause_of) c.in-None.ensures.steps.0))
    ∙ c.loop-clause.invariant.2 ∙ ap (λ body. add_clauses question (clauses_of body) question) all
    ∙ sym (consistent_reply (clauses_in c.args.self.now) question (sym c.if-is_inconsistent.ensures.answer))
