-- One question more is answered; behind the last there is at most one number.
use Rattle.std.proofs.Common.{◌≡◌, ◌+◌, ◌*◌, ◌<◌, length, get_or, set, sym, ap, ◌∙◌, arith}
use Rattle.assignment.specs.declared.assignment.Assignment.{Assignment}
use Rattle.ruleset.specs.Listed.{Rule}
use Rattle.facade.proofs.Answering.{asked, at_the_end, continued, one_more}
use Rattle.facade.proofs.asking.answer_all.Goals as goal

pub loop-i-preserved : goal.loop-i-preserved
loop-i-preserved g c =
    let f : Rule = (g.R.RuleSet.meaning c.args.rules.now).reply 0 in
    let xs = c.loop-i.masks in
    let i = 2 * c.loop-i.i in
    let q = c.new-question.result in
    let reply = c.propagate-reply.result in
    let there : i + 1 < length xs = omega (arith, c.loop-i-test.true, c.loop-i.auto.masks) in
    let replied : reply ≡ f q = c.propagate-reply.ensures.answer ∙ ap (λ m. m.reply 0 q) c.loop-i.invariant.0 in
    let yes = c.yes_mask.ensures ∙ ap (λ (a : Assignment). a.yes) replied in
    let no = c.no_mask.ensures ∙ ap (λ (a : Assignment). a.no) replied in
    let up : i + 1 + 1 ≡ 2 * (c.loop-i.i + 1) = omega arith in (
      c.propagate-reply.ensures.same ∙ c.loop-i.invariant.0,
      c.loop-i.invariant.1
          ∙ one_more f i xs q there (asked q (get_or xs i 0) (get_or xs (i + 1) 0) c.new-question.ensures.yes c.new-question.ensures.no)
          ∙ ap (λ n. continued f n (set (set xs i (f q).yes) (i + 1) (f q).no)) up
          ∙ sym (ap (λ y. continued f (2 * (c.loop-i.i + 1)) (set (set xs i y) (i + 1) c.no_mask.result)) yes
          ∙ ap (λ n. continued f (2 * (c.loop-i.i + 1)) (set (set xs i (f q).yes) (i + 1) n)) no),
    )

pub returns : goal.returns
returns g c =
    let f : Rule = (g.R.RuleSet.meaning c.args.rules.now).reply 0 in
    let xs = c.loop-i.masks in
    let i = 2 * c.loop-i.i in
    let past : length xs < i + 2 = omega (arith, c.loop-i-test.false, c.loop-i.auto.masks) in
    sym (c.loop-i.invariant.1 ∙ at_the_end f i xs past)
