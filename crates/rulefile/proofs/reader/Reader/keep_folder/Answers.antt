-- A folder that is refused is refused as its checks say; one that passes is the last.
use Rattle.std.proofs.Common.{◌≡◌, ℕ, List, vec_items, sym, ap, ◌∙◌}
use Rattle.std.proofs.lemmas.Result.{err_from_is_err_and}
use Rattle.refusals.specs.Checks.{judged}
use Rattle.refusals.specs.declared.fault.FileFault.TheVariants.{Folder}
use Rattle.ruleformat.specs.Contents.{rules}
use Rattle.ruleformat.specs.Folders.{entries_of, folder_checks, with_folder}
use Rattle.rulefile.specs.Held.{held, kept}
use Rattle.entries.specs.Drafts.{drafted}
use Rattle.rulefile.proofs.Parts.{part_kept, part_refused}
use Rattle.rulefile.proofs.reader.Reader.keep_folder.Goals as goal

-- the count of rules below, as it was found
same_rules : {below : ℕ} (n place : ℕ) (body : List ℕ) {c : ℕ} → below ≡ c → judged (folder_checks n c place body) (entries_of body) ≡ judged (folder_checks n below place body) (entries_of body)
same_rules n place body e = ap (λ m. judged (folder_checks n m place body) (entries_of body)) (sym e)

pub returns-in_err-draft : goal.returns-in_err-draft
returns-in_err-draft c =
    let r = c.args.self in
    let body = c.args.body.bytes.now in
    let told = same_rules r.file.parts.options c.args.body.place body c.rules-rules.ensures ∙ sym c.in_err-draft.ensures in
    let p = err_from_is_err_and c.from_residual.result c.from_residual.ensures.1 in
    rw (p.1, p.2)
    (part_refused Folder (folder_checks r.file.parts.options (rules (held r)) c.args.body.place body) (entries_of body) (kept 4 (with_folder body (held r))) c.in_err-draft.field-0.0 told)

pub returns : goal.returns
returns c =
    let r = c.args.self in
    let body = c.args.body.bytes.now in
    let passed = same_rules r.file.parts.options c.args.body.place body c.rules-rules.ensures ∙ sym c.in_ok-draft.ensures in
    part_kept (λ part. kept 4 (record (held r) { folders = part })) (λ es. es) drafted Folder
    (folder_checks r.file.parts.options (rules (held r)) c.args.body.place body) (vec_items r.file.parts.folders) (vec_items c.push_reserved.new.self)
    c.in_ok-draft.draft (entries_of body) c.push_reserved.ensures.items passed
