-- The law is kept.
use Rattle.enquiry.specs.Views.{opening_of, state_of}
use Rattle.enquiry.proofs.Enquiries.{law_kept, sound_opening}
use Rattle.enquiry.proofs.state.Enquiry.answer.Goals as goal

pub returns-clause-law : goal.returns-clause-law
returns-clause-law g c =
    let q = c.args.self.now in
    law_kept (opening_of (g.R.RuleSet.meaning q.rules) q) _ (state_of q) _ c.args.call _ (sound_opening (g.R.RuleSet.meaning q.rules) q (g.R.RuleSet.lawful q.rules) q.few) c.act.ensures.reply c.act.ensures.state c.act.ensures.same
