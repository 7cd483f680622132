-- One call more is answered.
use Rattle.std.proofs.Common.{◌∙◌, ◌<◌, length, ap, ap₂, get_or, set, refl, arith, false}
use Rattle.calls.specs.declared.call.Call.{Call}
use Rattle.calls.specs.declared.call.Call.TheVariants.{Settle}
use Rattle.enquiry.specs.States.{step}
use Rattle.enquiry.specs.Views.{opening_of, state_of}
use Rattle.enquiry.proofs.Sending.{next_reply, next_state}
use Rattle.enquiry.proofs.state.Enquiry.answer_each.Goals as goal

pub loop-i-preserved : goal.loop-i-preserved
loop-i-preserved g c =
    let q = c.args.self.now in
    let o = opening_of (g.R.RuleSet.meaning q.rules) q in
    let s = state_of q in
    let l = c.loop-i in
    let there : l.i < length c.args.calls.now = omega (arith, c.loop-i-test.true, c.min-i-end.ensures) in
    let room : l.i < length c.args.replies.now = omega (arith, c.loop-i-test.true, c.min-i-end.ensures) in
    let d : Call = Settle 0 false in
    let call : Call = get_or c.args.calls.now l.i d in
    record {
      same = c.answer.ensures.same ∙ l.invariant.same;
      state = next_state o s c.args.calls.now c.args.replies.now l.i call d (state_of c.answer.new.self) there refl (c.answer.ensures.state ∙ ap₂ (λ x y. (step x y call).state) l.invariant.same l.invariant.state);
      replies = ap (λ rs. set rs l.i c.answer.result) l.invariant.replies
          ∙ next_reply o s c.args.calls.now c.args.replies.now l.i call d c.answer.result there room refl (c.answer.ensures.reply ∙ ap₂ (λ x y. (step x y call).reply) l.invariant.same l.invariant.state);
    }
