-- The law holds of all calls.
use Rattle.std.proofs.Common.{length, min, take}
use Rattle.enquiry.specs.Views.{opening_of}
use Rattle.enquiry.proofs.Enquiries.{sound_opening}
use Rattle.enquiry.proofs.RunLaws.{run_law}
use Rattle.enquiry.proofs.state.Enquiry.run.Goals as goal

pub returns-clause-law : goal.returns-clause-law
returns-clause-law g c =
    let q = c.answer_each.new.self in
    let sound = sound_opening (g.R.RuleSet.meaning q.rules) q (g.R.RuleSet.lawful q.rules) q.few in
    (run_law (opening_of (g.R.RuleSet.meaning q.rules) q) sound).always (take (min (length c.args.calls.now) (length c.args.replies.now)) c.args.calls.now)
