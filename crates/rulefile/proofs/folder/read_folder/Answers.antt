-- First the shape decides, then the entries.
use Rattle.std.proofs.Common.{◌≡◌, ℕ, List, [], sym, ap, ◌∙◌}
use Rattle.std.proofs.lemmas.Result.{err_from_is_err_and}
use Rattle.refusals.specs.Checks.{judged, when}
use Rattle.refusals.specs.declared.fault.FolderFault.TheVariants.{Record}
use Rattle.refusals.specs.declared.refusal.Refusal.TheVariants.{Unfit}
use Rattle.refusals.proofs.Judged.{judged_err, judged_head, judged_lone, judged_ok}
use Rattle.ruleformat.specs.Folders.{entries_checks, entries_of, entry_pieces, unfit_folder}
use Rattle.ruleformat.specs.Records.{at}
use Rattle.rulefile.proofs.folder.read_folder.Goals as goal

-- a draft told these numbers judges by them
same_told : {n n' below below' : ℕ} (place : ℕ) (body : List ℕ) → n ≡ n' → below ≡ below' → judged (entries_checks n below place 0 (entry_pieces body)) (tt {0}) ≡ judged (entries_checks n' below' place 0 (entry_pieces body)) (tt {0})
same_told {n} {n'} {below} {below'} place body en eb =
    ap (λ m. judged (entries_checks m below place 0 (entry_pieces body)) (tt {0})) en
    ∙ ap (λ m. judged (entries_checks n' m place 0 (entry_pieces body)) (tt {0})) eb

pub returns-in_err-check_shape : goal.returns-in_err-check_shape
returns-in_err-check_shape c =
    let body = c.args.body.bytes.now in
    let entries = entries_checks c.args.options c.args.below c.args.body.place 0 (entry_pieces body) in
    let e =
    judged_lone (tt {0}) (entries_of body) Record (unfit_folder body) (at Unfit c.args.body.place) c.in_err-check_shape.field-0.0
    entries (sym c.check_shape.ensures ∙ c.in_err-check_shape.was) in
    let p = err_from_is_err_and c.from_residual.result c.from_residual.ensures.1 in
    rw (p.1, p.2) (sym e)

pub returns-in_err-add_entries : goal.returns-in_err-add_entries
returns-in_err-add_entries c =
    let body = c.args.body.bytes.now in
    let shape = judged_head (when (unfit_folder body) (at Unfit c.args.body.place)) [] (tt {0}) tt (sym c.check_shape.ensures ∙ c.in_ok-check_shape.was) in
    let entries = entries_checks c.args.options c.args.below c.args.body.place 0 (entry_pieces body) in
    let same = same_told c.args.body.place body c.new-draft.ensures.options c.new-draft.ensures.below in
    let told = sym same ∙ sym c.add_entries.ensures.answer ∙ c.in_err-add_entries.was in
    let e = judged_err (tt {0}) (entries_of body) entries c.in_err-add_entries.field-0.0 told in
    let p = err_from_is_err_and c.from_residual-in_err-add_entries.result c.from_residual-in_err-add_entries.ensures.1 in
    rw (p.1, p.2, shape) (sym e)

pub returns : goal.returns
returns c =
    let body = c.args.body.bytes.now in
    let shape = judged_head (when (unfit_folder body) (at Unfit c.args.body.place)) [] (tt {0}) tt (sym c.check_shape.ensures ∙ c.in_ok-check_shape.was) in
    let entries = entries_checks c.args.options c.args.below c.args.body.place 0 (entry_pieces body) in
    let same = same_told c.args.body.place body c.new-draft.ensures.options c.new-draft.ensures.below in
    let told = sym same ∙ sym c.add_entries.ensures.answer ∙ c.in_ok-add_entries.was in
    let e = judged_ok (tt {0}) (entries_of body) entries tt told in
    let all = c.in_ok-add_entries.ensures.entries in
    rw (shape, all) (sym e)
