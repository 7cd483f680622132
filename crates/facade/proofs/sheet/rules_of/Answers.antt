-- A body that is refused does not pass; memory is wanted for one that passes, and of this there is the one sheet.
use Rattle.std.proofs.Common.{◌≡◌, ◌&&◌, [], ◌∷◌, ◌++◌, map, Err, sym, ap, ap₂, ◌∙◌, arith}
use Rattle.std.proofs.lemmas.Result.{err_from_is_err_and}
use Rattle.refusals.proofs.Judged.{judged_value}
use Rattle.std.proofs.Math.Bool.{and-false}
use Rattle.facade.specs.Outcomes.{code_of, passes, told}
use Rattle.facade.specs.declared.failure.Failure.TheVariants.{Refused, NoMemory}
use Rattle.facade.proofs.Passing.{passes_err, passes_ok}
use Rattle.facade.proofs.sheet.rules_of.Goals as goal

pub returns-in_err-sheet : goal.returns-in_err-sheet
returns-in_err-sheet g c =
    let body = c.args.body.now in
    let p = err_from_is_err_and c.from_residual.result c.from_residual.ensures.1 in
    let refused = passes_err (g.S.Sheet.checks c.args.options 0 body) body c.in_err-sheet.field-0.0 (sym c.in_err-sheet.ensures) in
    let good = passes (told c.args.options) in
    let other : p.0 ≡ NoMemory → Refused ≡ NoMemory = λ h. sym p.2 ∙ h in
    rw p.1 (
      λ _. ap (λ b. good && b) refused ∙ and-false good,
      λ h. absurd (omega (arith, ap (λ e. code_of (Err e)) (other h))),
    )

pub returns-in_err-sheets : goal.returns-in_err-sheets
returns-in_err-sheets g c =
    let body = c.args.body.now in
    let checks = g.S.Sheet.checks c.args.options 0 body in
    let p = err_from_is_err_and c.from_residual-in_err-sheets.result c.from_residual-in_err-sheets.ensures.1 in
    let other : p.0 ≡ Refused → NoMemory ≡ Refused = λ h. sym p.2 ∙ h in
    rw p.1 (
      λ h. absurd (omega (arith, ap (λ e. code_of (Err e)) (other h))),
      λ _. ap₂ ◌&&◌ (sym c.is_told.ensures ∙ c.if-not-is_told.false) (passes_ok checks body (g.S.SheetBody.body_of c.in_ok-sheet.sheet) (sym c.in_ok-sheet.ensures)),
    )

pub returns : goal.returns
returns g c =
    let body = c.args.body.now in
    let sheet = c.in_ok-sheet.sheet in
    let body_of = g.S.SheetBody.body_of in
    let checks = g.S.Sheet.checks c.args.options 0 body in
    let ok = sym c.in_ok-sheet.ensures in
    let items = c.push_reserved.ensures.items ∙ ap (λ l. l ++ sheet ∷ []) c.in_ok-sheets.ensures.items in (
      sym c.is_told.ensures ∙ c.if-not-is_told.false,
      passes_ok checks body (body_of sheet) ok,
      ap (map body_of) (c.new.ensures ∙ items) ∙ ap (λ b. b ∷ []) (judged_value checks body (body_of sheet) ok),
    )
