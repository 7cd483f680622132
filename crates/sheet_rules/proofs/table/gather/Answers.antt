-- One row is gathered if it agrees.
use Rattle.std.proofs.Common.{◌≡◌, ℕ, ◌<◌, Bool, true, false, cond, List, ◌∷◌, Some, None, Option, sym, ap, ◌∙◌, arith}
use Rattle.ruleformat.specs.Tables.{columns_of, rows_in}
use Rattle.assignment.specs.declared.assignment.Assignment.{Assignment}
use Rattle.sheets.specs.Views.{table_body}
use Rattle.sheet_rules.specs.Agreement.{agreeing}
use Rattle.sheet_rules.specs.Gathered.{gathered, with_row}
use Rattle.sheet_rules.specs.Marks.{fits, known_of}
use Rattle.sheet_rules.specs.declared.common.Common.{Common}
use Rattle.sheet_rules.specs.declared.known.Known.{Known}
use Rattle.sheet_rules.proofs.Gathering.{gathered_step}
use Rattle.sheet_rules.proofs.MarkedRows.{fits_agrees}
use Rattle.sheet_rules.proofs.table.gather.Goals as goal

-- what the row and those behind it add, for the columns and the question that the masks are of
row_gathered : (cs : List ℕ) (a : Assignment) (k : Known) (before : Option Common) (row : ℕ) (rows : List ℕ) (b : Bool) → row < 65536 → k ≡ known_of cs a → b ≡ fits k row → gathered (cond b (Some (with_row before row)) before) (agreeing cs rows a) ≡ gathered before (agreeing cs (row ∷ rows) a)
row_gathered cs a k before row rows b small known e =
    ap (λ t. gathered (cond t (Some (with_row before row)) before) (agreeing cs rows a))
    (e ∙ ap (λ m. fits m row) known ∙ fits_agrees row small cs a)
    ∙ sym (gathered_step cs a before row rows)

pub loop-row-preserved-then-agrees : goal.loop-row-preserved-then-agrees
loop-row-preserved-then-agrees c =
    let row = c.in-Some.row in
    let before = c.loop-row.common in
    let small : row < 65536 = omega arith in
    let rest = rows_in c.next.new.self.rest.now in (
      tt,
      tt,
      λ cs a e.
          ap (λ d. gathered (Some d) (agreeing cs rest a)) c.with_row.ensures
          ∙ row_gathered cs a c.of-known.result before row rest true small e c.if-agrees.ensures
          ∙ sym (ap (λ rows. gathered before (agreeing cs rows a)) c.in-Some.ensures.steps) ∙ c.loop-row.invariant.2 cs a e,
    )

pub loop-row-preserved : goal.loop-row-preserved
loop-row-preserved c =
    let row = c.in-Some.row in
    let before = c.loop-row.common in
    let small : row < 65536 = omega arith in
    let rest = rows_in c.next.new.self.rest.now in (
      tt,
      tt,
      λ cs a e.
          row_gathered cs a c.of-known.result before row rest false small e c.if-agrees.ensures
          ∙ sym (ap (λ rows. gathered before (agreeing cs rows a)) c.in-Some.ensures.steps) ∙ c.loop-row.invariant.2 cs a e,
    )

pub returns : goal.returns
unfolding gathered agreeing
returns c =
    let question = c.args.question in
    let columns = columns_of (table_body c.args.sheet.now) in
    let known = c.of-known.ensures ∙ ap (λ cs. known_of cs question) c.columns.ensures in
    let all = ap (λ it. rows_in it.rest.now) c.into_iter-row-iterator.ensures.into_iter_gives ∙ c.rows-row-items.ensures in
    sym (ap (λ rows. gathered c.loop-row.common (agreeing columns rows question)) c.in-None.ensures.steps.0)
    ∙ c.loop-row.invariant.2 columns question known ∙ ap (λ rows. gathered None (agreeing columns rows question)) all
