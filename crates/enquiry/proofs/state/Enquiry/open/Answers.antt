-- What passes is in range and consistent, and nothing is settled yet; what does not may not be opened.
use Rattle.std.proofs.Common.{◌≡◌, ◌∙◌, sym, ap, refl, subst, true}
use Rattle.assignment.specs.Lattice.{no_from}
use Rattle.enquiry.specs.Openings.{opening_verdict}
use Rattle.enquiry.specs.Room.{roomy}
use Rattle.enquiry.specs.Settled.{well_settled}
use Rattle.enquiry.proofs.Enquiries.{sound_at}
use Rattle.enquiry.proofs.Opened.{opens_passed, passed_opens, start_calm}
use Rattle.refusals.proofs.Judged.{ok_is_no_err}
use Rattle.enquiry.proofs.state.Enquiry.open.Goals as goal

pub returns-in-Err-clause-opens : goal.returns-in-Err-clause-opens
returns-in-Err-clause-opens g c =
    let verdict = opening_verdict c.args.options c.args.start c.args.rule in
    λ opens. ok_is_no_err
    (sym (opens_passed c.args.options c.args.start c.args.rule (g.R.RuleSet.meaning c.args.rules).count opens)
    ∙ ap verdict (sym c.count.ensures) ∙ sym c.check.ensures ∙ c.in-Err.is)

pub returns-in-Ok-clause-opens : goal.returns-in-Ok-clause-opens
returns-in-Ok-clause-opens g c =
    let verdict = opening_verdict c.args.options c.args.start c.args.rule in
    passed_opens c.args.options c.args.start c.args.rule (g.R.RuleSet.meaning c.args.rules).count (ap verdict (sym c.count.ensures) ∙ sym c.check.ensures ∙ c.in-Ok.is)

pub returns-in-Ok-clause-sound : goal.returns-in-Ok-clause-sound
returns-in-Ok-clause-sound g c =
    sound_at _ (g.R.RuleSet.lawful c.args.rules) (returns-in-Ok-clause-opens g c).few refl

pub invariant_of-result : goal.invariant_of-result
invariant_of-result g c =
    let verdict = opening_verdict c.args.options c.args.start c.args.rule in
    let opens = passed_opens c.args.options c.args.start c.args.rule (g.R.RuleSet.meaning c.args.rules).count (ap verdict (sym c.count.ensures) ∙ sym c.check.ensures ∙ c.in-Ok.is) in
    record {
      few = opens.few;
      calm = start_calm c.args.options c.args.rule (g.R.RuleSet.meaning c.args.rules).count c.args.start opens;
      well = subst (λ ss. well_settled (no_from c.args.options c.args.start) ss ≡ true) (sym c.new.ensures) refl;
      room = subst (λ p. roomy p ≡ true) (sym c.new-in-Ok.ensures) refl;
    }
