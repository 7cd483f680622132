-- The laws of calls and replies.
use Rattle.enquiry.proofs.Counted.{fewer_counted}
use Rattle.enquiry.proofs.Once.{determined}
use Rattle.enquiry.proofs.RunLaws.{run_law}
use Rattle.enquiry.proofs.WantLaws.{want_law}
use Rattle.enquiry.proofs.laws.run_laws.Goals as goal

pub returns : goal.returns
returns c = record { run = run_law; wants = want_law; determined = determined; fewer = fewer_counted }
