-- The draft has no entry yet, so its checks are those of the projection alone.
use Rattle.std.proofs.Common.{◌≡◌, ℕ, true, is_ok, [], ◌∷◌, ◌++◌, length, vec_items, vec_len, sym, ap, ◌∙◌}
use Rattle.std.proofs.lemmas.Result.{err_from_is_err_and}
use Rattle.entries.specs.Drafts.{draft_checks}
use Rattle.entries.specs.Ops.{code_of}
use Rattle.entries.specs.declared.op.Op.TheVariants as op
use Rattle.entries.specs.declared.draft.Draft.{Draft}
use Rattle.entries.specs.declared.entry.Entry.TheVariants.{Projection}
use Rattle.entries.specs.Accepts.{fields_for}
use Rattle.entries.specs.Fields.{entry_checks, entry_of}
use Rattle.refusals.specs.Checks.{judged}
use Rattle.refusals.proofs.Judged.{judged_passes}
use Rattle.facade.specs.Outcomes.{hides, passes, told}
use Rattle.facade.proofs.Passing.{passed, passes_err, passes_ok}
use Rattle.facade.proofs.hiding.hiding.Goals as goal

-- what the checks of a draft with no entry find
same_checks : (d : Draft) (options hidden : ℕ) → d.options ≡ options → d.below ≡ 1 → vec_items d.entries ≡ [] → passes (told options) ≡ true → passes (draft_checks d (fields_for (Projection 0 hidden))) ≡ hides options hidden
unfolding hides
same_checks d options hidden e f g t =
    let none : vec_len d.entries ≡ 0 = d.entries.ok.0 ∙ ap length g in
    let checks = entry_checks options 1 (fields_for (Projection 0 hidden)) in
    rw (e, f, none) (ap is_ok (judged_passes (tt {0}) (tt {0}) (told options) checks (tt {0}) (passed (told options) t)))

-- the fields of the projection, which has the code of its op
told_fields : (code hidden : ℕ) → code ≡ code_of op.Projection → record { op = code; first = 0; second = 0; third = 0; word = hidden } ≡ fields_for (Projection 0 hidden)
told_fields code hidden e = ap (λ o. record { op = o; first = 0; second = 0; third = 0; word = hidden }) e

pub returns-in_err-add : goal.returns-in_err-add
returns-in_err-add c =
    let d = c.new-draft.result in
    let made = c.new-draft.ensures in
    let checks = draft_checks d (fields_for (Projection 0 c.args.hidden)) in
    let same = same_checks d c.args.options c.args.hidden made.options made.below made.entries c.requires in
    let stood = ap (λ f. judged (draft_checks d f) (tt {0})) (told_fields c.code.result c.args.hidden c.code.ensures) in
    let p = err_from_is_err_and c.from_residual-in_err-add.result c.from_residual-in_err-add.ensures.1 in
    rw p.1 (λ _. sym same ∙ passes_err checks (tt {0}) c.in_err-add.field-0.0 (sym (c.in_err-add.ensures.answer ∙ stood)))

pub returns : goal.returns
returns c =
    let d = c.new-draft.result in
    let made = c.new-draft.ensures in
    let checks = draft_checks d (fields_for (Projection 0 c.args.hidden)) in
    let same = same_checks d c.args.options c.args.hidden made.options made.below made.entries c.requires in
    let fields = told_fields c.code.result c.args.hidden c.code.ensures in
    let kept = c.in_ok-add.ensures in (
      sym same ∙ passes_ok checks (tt {0}) c.in_ok-add.field-0 (sym (kept.answer ∙ ap (λ f. judged (draft_checks d f) (tt {0})) fields)),
      kept.entries ∙ ap (λ f. vec_items d.entries ++ entry_of f ∷ []) fields ∙ ap (λ l. l ++ Projection 0 c.args.hidden ∷ []) made.entries,
    )
