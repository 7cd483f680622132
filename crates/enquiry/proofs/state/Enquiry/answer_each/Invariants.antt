-- The calls before this one are answered, each as the ones before have left the enquiry.
use Rattle.std.proofs.Common.{◌≡◌}
use Rattle.enquiry.specs.RunLaw.{replied_over}
use Rattle.enquiry.specs.Views.{opening_of, state_of}
use Rattle.enquiry.proofs.Sending.{sent_first}
use Rattle.enquiry.proofs.state.Enquiry.answer_each.Given as goal

abbrev pub invariant-loop-i : goal.invariant-loop-i
invariant-loop-i g l =
    let q = l.initial.self in
    let o = opening_of (g.R.RuleSet.meaning q.rules) q in
    record {
      same : opening_of (g.R.RuleSet.meaning l.self.rules) l.self ≡ o;
      state : state_of l.self ≡ (sent_first o (state_of q) l.calls l.initial.replies l.i).state;
      replies : l.replies ≡ replied_over (sent_first o (state_of q) l.calls l.initial.replies l.i).history l.initial.replies;
    }
