-- One clause decides, or leaves it to the clauses that follow.
use Rattle.std.proofs.Common.{◌≡◌, ℕ, ◌+◌, List, ◌∷◌, Ok, Err, sym, ap, ◌∙◌}
use Rattle.std.proofs.lemmas.Result.{err_from_is_err_and}
use Rattle.std.specs.Iterator.Adapters.{enumerate_count, enumerate_source}
use Rattle.refusals.specs.Checks.{judged}
use Rattle.refusals.specs.declared.fault.SheetFault.{SheetFault}
use Rattle.refusals.proofs.Judged.{judged_passes, judged_stops}
use Rattle.ruleformat.specs.Clauses.{clause_checks, clause_pieces, wanted_bytes, wanted_checks}
use Rattle.sheets.proofs.clauses.check_clauses.Goals as goal

-- clause i of those from some clause on, given by its bytes
module _ (n place i : ℕ) (first clause : List ℕ) (rest pieces : List (List ℕ)) (split : pieces ≡ first ∷ rest) (is : clause ≡ wanted_bytes first) where
  clause_passes : judged (wanted_checks n place i 0 clause) (tt {0}) ≡ Ok tt → judged (clause_checks n place i pieces) (tt {0}) ≡ judged (clause_checks n place (i + 1) rest) (tt {0})
  clause_passes h =
      ap (λ ps. judged (clause_checks n place i ps) (tt {0})) split
      ∙ judged_passes (tt {0}) (tt {0}) (wanted_checks n place i 0 (wanted_bytes first)) (clause_checks n place (i + 1) rest) tt (rw is at h)

  clause_stops : (e : SheetFault) → judged (wanted_checks n place i 0 clause) (tt {0}) ≡ Err e → judged (clause_checks n place i pieces) (tt {0}) ≡ Err e
  clause_stops e h =
      ap (λ ps. judged (clause_checks n place i ps) (tt {0})) split
      ∙ judged_stops (tt {0}) (tt {0}) (wanted_checks n place i 0 (wanted_bytes first)) (clause_checks n place (i + 1) rest) e (rw is at h)

pub loop-item-preserved : goal.loop-item-preserved
loop-item-preserved c =
    let i = enumerate_count c.loop-item.item-iterator in
    let xs = (enumerate_source c.loop-item.item-iterator).rest.now in
    let rest = clause_pieces (enumerate_source c.next.new.self).rest.now in
    let told = c.in-Some.ensures.steps in
    let found = rw told.1 at (sym c.check_wanted.ensures ∙ c.in_ok-check_wanted.was) in (
      c.in-Some.ensures.goes.keeps,
      tt,
      ap (λ k. judged (clause_checks c.args.options c.args.body.place k rest) (tt {0})) told.2
          ∙ sym (clause_passes c.args.options c.args.body.place i xs c.in-Some.clause.rest.now rest (clause_pieces xs) told.0.0 told.0.1 found)
          ∙ c.loop-item.invariant.2,
    )

pub returns-in_err-check_wanted : goal.returns-in_err-check_wanted
returns-in_err-check_wanted c =
    let i = enumerate_count c.loop-item.item-iterator in
    let xs = (enumerate_source c.loop-item.item-iterator).rest.now in
    let rest = clause_pieces (enumerate_source c.next.new.self).rest.now in
    let told = c.in-Some.ensures.steps in
    let fault = c.in_err-check_wanted.field-0.0 in
    let found = rw told.1 at (sym c.check_wanted.ensures ∙ c.in_err-check_wanted.was) in
    let e = clause_stops c.args.options c.args.body.place i xs c.in-Some.clause.rest.now rest (clause_pieces xs) told.0.0 told.0.1 fault found in
    let p = err_from_is_err_and c.from_residual.result c.from_residual.ensures.1 in
    cc (p.1, p.2, e, c.loop-item.invariant.2)
