-- The check judges as the draft does, but for the value.
use Rattle.std.proofs.Common.{sym, ◌∙◌}
use Rattle.std.proofs.lemmas.Result.{err_from_is_err_and}
use Rattle.refusals.proofs.Judged.{judged_err, judged_ok}
use Rattle.entries.specs.Drafts.{draft_checks}
use Rattle.entries.specs.Fields.{entry_of}
use Rattle.entries.proofs.Accepting.{accepts_decided}
use Rattle.entries.proofs.draft.Draft.add.Goals as goal

pub returns-in_err-entry-clause-answer : goal.returns-in_err-entry-clause-answer
returns-in_err-entry-clause-answer c =
    let checks = draft_checks c.args.self.now c.args.fields in
    let told = c.in_err-entry.field-0.0 in
    let passed = err_from_is_err_and c.from_residual.result c.from_residual.ensures.1 in
    let refused = judged_err (entry_of c.args.fields) (tt {0}) checks told (sym c.check.ensures.answer ∙ c.in_err-entry.was) in
    cc (passed.1, passed.2, refused)

pub returns-clause-answer : goal.returns-clause-answer
returns-clause-answer c =
    let checks = draft_checks c.args.self.now c.args.fields in
    sym (judged_ok (entry_of c.args.fields) (tt {0}) checks c.in_ok-entry.entry (sym c.check.ensures.answer ∙ c.in_ok-entry.was))

pub returns-in_err-entry-clause-accepted : goal.returns-in_err-entry-clause-accepted
returns-in_err-entry-clause-accepted c =
    accepts_decided _ (tt {0}) c.args.self.now c.args.fields (returns-in_err-entry-clause-answer c)

pub returns-clause-accepted : goal.returns-clause-accepted
returns-clause-accepted c = accepts_decided _ (tt {0}) c.args.self.now c.args.fields (returns-clause-answer c)
