-- The last build of a history that has left the enquiry; like every build that was given, it fits.
use Rattle.std.proofs.Common.{◌∙◌, sym}
use Rattle.enquiry.specs.Views.{opening_of}
use Rattle.enquiry.proofs.Counted.{first_of_kept}
use Rattle.enquiry.proofs.HistoryLaws.{last_given}
use Rattle.enquiry.proofs.state.Enquiry.close.Goals as goal

pub returns-clause-given : goal.returns-clause-given
returns-clause-given g c = λ h holds. c.last-last.ensures ∙ holds.0.last

pub returns-clause-fits : goal.returns-clause-fits
returns-clause-fits g c =
    λ h b holds is.
    (first_of_kept (opening_of (g.R.RuleSet.meaning c.args.self.rules) c.args.self) h holds.1).fitting b
    (last_given _ b (sym holds.0.last ∙ sym c.last-last.ensures ∙ is))
