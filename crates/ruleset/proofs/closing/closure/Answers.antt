-- A round is the last, or the rule is asked again.
use Rattle.std.proofs.Common.{◌≡◌, ℕ, ap, ◌∙◌, arith}
use Rattle.assignment.specs.declared.assignment.Assignment.{Assignment}
use Rattle.ruleset.specs.Meaning.{lawful_rule, Meaning}
use Rattle.ruleset.proofs.ClosureLaws.{closed, closure_last, closure_more, More}
use Rattle.ruleset.proofs.closing.closure.Given as given
use Rattle.ruleset.proofs.closing.closure.Goals as goal

-- the reply of rules that mean the same
replied : {n m : Meaning} {r : Assignment} (k : ℕ) (a : Assignment) → n ≡ m → r ≡ n.reply k a → r ≡ m.reply k a
replied k a e h = h ∙ ap (λ m. m.reply k a) e

pub returns-then-is_last : goal.returns-then-is_last
returns-then-is_last g c =
    let l = lawful_rule (g.R.RuleSet.lawful c.args.rules.now) c.args.rule in
    let reply = replied c.args.rule c.loop-reply.current c.loop-reply.invariant.same c.propagate-reply.ensures.answer in
    let last = closure_last _ l c.loop-reply.current c.propagate-reply.result reply c.if-is_last.ensures in
    let all = closed _ l c.args.known c.whole.result (c.whole.ensures.answer ∙ last ∙ c.loop-reply.invariant.closed) in
    record {
      answer = all.answer;
      least = all.least;
      asked = all.asked;
      same = c.propagate-reply.ensures.same ∙ c.loop-reply.invariant.same;
    }

more : (g : given.Over) (c : goal.Else-is_last g) → More ((g.R.RuleSet.meaning c.args.rules.now).reply c.args.rule) c.loop-reply.current c.propagate-reply.result
more g c =
    let l = lawful_rule (g.R.RuleSet.lawful c.args.rules.now) c.args.rule in
    let reply = replied c.args.rule c.loop-reply.current c.loop-reply.invariant.same c.propagate-reply.ensures.answer in
    closure_more _ l c.loop-reply.current c.propagate-reply.result reply c.if-is_last.ensures

pub loop-reply-preserved : goal.loop-reply-preserved
loop-reply-preserved g c =
    record {
      same = c.propagate-reply.ensures.same ∙ c.loop-reply.invariant.same;
      closed = (more g c).closed ∙ c.loop-reply.invariant.closed;
    }

pub loop-reply-smaller : goal.loop-reply-smaller
loop-reply-smaller g c = omega (arith, (more g c).larger, (more g c).few)
