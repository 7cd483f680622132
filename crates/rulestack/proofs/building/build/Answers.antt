-- Four drafts at most are laid one after the other.
use Rattle.std.proofs.Common.{◌≡◌, ◌∷◌, ◌+◌, ◌≤◌, map, length, vec_items, vec_len, sym, ap, ◌∙◌, subst, arith}
use Rattle.std.specs.Vec.Iter.{into_iter_items, into_iter_len}
use Rattle.entries.specs.Drafts.{drafted}
use Rattle.folders.specs.Folders.{folder, stack}
use Rattle.folders.specs.declared.folder.Folder.{Folder}
use Rattle.rulefile.specs.Held.{contents_in}
use Rattle.rulefile.specs.declared.file.FileParts.{FileParts}
use Rattle.ruleset.specs.Meaning.{Meaning}
use Rattle.rulestack.specs.FileRules.{file_rules}
use Rattle.rulestack.specs.Laid.{laid}
use Rattle.rulestack.proofs.Layers.{few_rules, four_laid, one_less}
use Rattle.rulestack.proofs.SheetsHeld.{beside, few_sheets, sheets_are, sheets_mean}
use Rattle.rulestack.proofs.building.build.Goals as goal

-- a folder over something whose meaning is known
abbrev over : {R : Type 0} → (R → Meaning) → Folder R → Meaning
over below f = folder (drafted f.draft) (below f.below)

pub lay-one-requires : goal.lay-one-requires
lay-one-requires c =
    let few = subst (λ (p : FileParts). vec_len p.tables + vec_len p.clauses ≤ 32) (sym c.into_parts-options.ensures) c.args.file.few in
    few_sheets c.into_parts-options.result c.new-sheets.result few
    (beside c.into_parts-options.result c.new-sheets.ensures.first c.new-sheets.ensures.second c.new.ensures c.new-2.ensures)

pub lay-two-requires : goal.lay-two-requires
lay-two-requires c = few_rules c.lay-one.result.draft (sheets_mean c.lay-one.result.below)

pub lay-three-requires : goal.lay-three-requires
lay-three-requires c = few_rules c.lay-two.result.draft (over sheets_mean c.lay-two.result.below)

pub lay-requires : goal.lay-requires
lay-requires c = few_rules c.lay-three.result.draft (over (over sheets_mean) c.lay-three.result.below)

-- all drafts are taken
all_taken : (c : goal.After-drop-drafts) → length (into_iter_items c.next-4.new.self) ≡ 0
all_taken c =
    let file = c.args.file in
    let it = c.into_iter-drafts.result in
    let it₁ = c.next.new.self in
    let it₂ = c.next-2.new.self in
    let it₃ = c.next-3.new.self in
    let it₄ = c.next-4.new.self in
    let s₁ = one_less c.next.result (into_iter_len it) (into_iter_len it₁) (λ x. into_iter_items it ≡ x ∷ into_iter_items it₁) c.next.ensures.cases in
    let s₂ = one_less c.next-2.result (into_iter_len it₁) (into_iter_len it₂) (λ x. into_iter_items it₁ ≡ x ∷ into_iter_items it₂) c.next-2.ensures.cases in
    let s₃ = one_less c.next-3.result (into_iter_len it₂) (into_iter_len it₃) (λ x. into_iter_items it₂ ≡ x ∷ into_iter_items it₃) c.next-3.ensures.cases in
    let s₄ = one_less c.next-4.result (into_iter_len it₃) (into_iter_len it₄) (λ x. into_iter_items it₃ ≡ x ∷ into_iter_items it₄) c.next-4.ensures.cases in
    let whole = c.into_iter-drafts.ensures.len ∙ ap (λ (p : FileParts). vec_len p.folders) c.into_parts-options.ensures in
    omega (arith, s₁, s₂, s₃, s₄, whole, file.low, it₄.rest.ok.0)

pub returns : goal.returns
returns c =
    let parts = c.into_parts-options.result in
    let m = sheets_mean c.new-sheets.result in
    let d₂ = c.next-2.result in
    let d₃ = c.next-3.result in
    let d₄ = c.next-4.result in
    let it = into_iter_items c.into_iter-drafts.result in
    let taken =
    four_laid m it (into_iter_items c.next.new.self) (into_iter_items c.next-2.new.self)
    (into_iter_items c.next-3.new.self) (into_iter_items c.next-4.new.self) c.next.result d₂ d₃ d₄
    c.next.ensures.items c.next-2.ensures.items c.next-3.ensures.items c.next-4.ensures.items (all_taken c) in
    c.lay.ensures ∙ ap (laid d₄) c.lay-three.ensures ∙ ap (λ n. laid d₄ (laid d₃ n)) c.lay-two.ensures
    ∙ ap (λ n. laid d₄ (laid d₃ (laid d₂ n))) c.lay-one.ensures ∙ taken
    ∙ ap (λ ds. stack (map drafted ds) m) c.into_iter-drafts.ensures.rest
    ∙ ap (stack (map drafted (vec_items parts.folders)))
    (sheets_are parts c.new-sheets.result
    (beside parts c.new-sheets.ensures.first c.new-sheets.ensures.second c.new.ensures c.new-2.ensures))
    ∙ ap (λ (p : FileParts). file_rules (contents_in p)) c.into_parts-options.ensures
