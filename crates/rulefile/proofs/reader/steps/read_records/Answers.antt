-- One record decides, or leaves it to the records that follow.
use Rattle.std.proofs.Common.{◌≡◌, ℕ, ◌+◌, ◌-◌, ◌<◌, ◌≤◌, List, ◌∷◌, ◌++◌, length, drop, Ok, Err, false, eqb, sym, ap, ◌∙◌, subst, arith, rules}
use Rattle.std.proofs.lemmas.List.{length-drop, take_rest}
use Rattle.std.proofs.lemmas.Result.{err_from_is_err_and}
use Rattle.std.proofs.lemmas.Bool.{eqb-false, le-ltb}
use Rattle.refusals.specs.Checks.{Check, judged, within}
use Rattle.refusals.specs.declared.fault.FileFault.{FileFault}
use Rattle.refusals.specs.declared.fault.FileFault.TheVariants.{Record}
use Rattle.refusals.specs.declared.fault.RecordFault.{RecordFault}
use Rattle.refusals.proofs.Judged.{judged_err, judged_passes, judged_stops, judged_value, judged_within_err, judged_within_ok}
use Rattle.ruleformat.specs.Contents.{Contents}
use Rattle.ruleformat.specs.Reading.{body_checks, checks_from, held_from, with_record}
use Rattle.ruleformat.specs.Records.{body, head_checks, kind, record_size, records}
use Rattle.ruleformat.proofs.Pieces.{pieces_more}
use Rattle.rulefile.specs.Codes.{last_code}
use Rattle.rulefile.specs.Held.{Ready, SoFar, held, kept, so_far, summed}
use Rattle.rulefile.specs.Views.{Shown, whole}
use Rattle.rulefile.specs.declared.reader.Reader.{Reader}
use Rattle.rulefile.specs.declared.record.Before.{Before}
use Rattle.rulefile.proofs.Heads.{body_length, heads, heads_answer, is_ready, is_whole, shown_is}
use Rattle.rulefile.proofs.reader.steps.read_records.Goals as goal

-- a record is left, and its head passed as x
record Turn (total : ℕ) (r : Reader) (rest : List ℕ) (x : Shown) : Type 0 where
  some : 0 < length rest
  passed : judged (heads r (total - length rest) rest) (whole (total - length rest) rest) ≡ Ok x

some_left : (rest : List ℕ) → false ≡ eqb (length rest) 0 → 0 < length rest
some_left rest e = omega (arith, eqb-false (length rest) 0 (sym e))

turn : (r : Reader) {b : Before} {rest : List ℕ} {x : Shown} (total : ℕ) → false ≡ eqb (length rest) 0 → b ≡ summed r → Ok x ≡ judged (head_checks b.kind b.sheets b.folders (total - length rest) rest) (whole (total - length rest) rest) → Turn total r rest x
turn r {b} {rest} {x} total e summed told =
    record { some = some_left rest e; passed = heads_answer r b (total - length rest) rest (Ok x) summed told }

abbrev of_body : ℕ → Reader → List ℕ → List (Check FileFault)
of_body total r rest = body_checks (kind rest) (total - length rest) (body rest) (held r)

abbrev then_held : Reader → List ℕ → Contents
then_held r rest = with_record (kind rest) (body rest) (held r)

abbrev later : ℕ → Reader → List ℕ → List (Check FileFault)
later total r rest = checks_from total (kind rest) (then_held r rest) (records (drop (record_size rest) rest))

more : (rest : List ℕ) → 0 < length rest → records rest ≡ rest ∷ records (drop (record_size rest) rest)
more rest some = pieces_more record_size rest some (omega arith)

head_stops : (total : ℕ) (r : Reader) (rest : List ℕ) (v : Contents) (e : RecordFault) → 0 < length rest → judged (heads r (total - length rest) rest) (whole (total - length rest) rest) ≡ Err e → judged (checks_from total (last_code r.last) (held r) (records rest)) v ≡ Err (Record e)
head_stops total r rest v e some h =
    let place = total - length rest in
    ap (λ ps. judged (checks_from total (last_code r.last) (held r) ps) v) (more rest some)
    ∙ judged_stops v v (within Record (heads r place rest) ++ of_body total r rest) (later total r rest) (Record e)
    (judged_stops v v (within Record (heads r place rest)) (of_body total r rest) (Record e)
    (judged_within_err (whole place rest) v Record (heads r place rest) e h))

module _ {total : ℕ} {r : Reader} {rest : List ℕ} {x : Shown} (t : Turn total r rest x) where
  abbrev place : ℕ
  place = total - length rest

  body_stops : {A : Type 0} (u : A) (v : Contents) (e : FileFault) → judged (of_body total r rest) u ≡ Err e → judged (checks_from total (last_code r.last) (held r) (records rest)) v ≡ Err e
  body_stops u v e h =
      ap (λ ps. judged (checks_from total (last_code r.last) (held r) ps) v) (more rest t.some)
      ∙ judged_stops v v (within Record (heads r place rest) ++ of_body total r rest) (later total r rest) e
      (judged_passes v v (within Record (heads r place rest)) (of_body total r rest) v
      (judged_within_ok (whole place rest) v Record (heads r place rest) x t.passed)
      ∙ judged_err u v (of_body total r rest) e h)

  record_passes : {A : Type 0} (u y : A) → judged (of_body total r rest) u ≡ Ok y → judged (checks_from total (last_code r.last) (held r) (records rest)) (held_from (held r) (records rest)) ≡ judged (later total r rest) (held_from (then_held r rest) (records (drop (record_size rest) rest)))
  record_passes u y h =
      ap (λ ps. judged (checks_from total (last_code r.last) (held r) ps) (held_from (held r) ps)) (more rest t.some)
      ∙ judged_passes u (held_from (then_held r rest) (records (drop (record_size rest) rest)))
      (within Record (heads r place rest) ++ of_body total r rest) (later total r rest) y
      (judged_passes u u (within Record (heads r place rest)) (of_body total r rest) u
      (judged_within_ok (whole place rest) u Record (heads r place rest) x t.passed) ∙ h)

  -- what keeping the record answers, by the record's bytes
  kept_is : judged (body_checks x.kind x.place x.body (held r)) (kept x.kind (with_record x.kind x.body (held r))) ≡ judged (of_body total r rest) (kept (kind rest) (then_held r rest))
  kept_is =
      ap (λ (y : Shown). judged (body_checks y.kind y.place y.body (held r)) (kept y.kind (with_record y.kind y.body (held r))))
      (shown_is r place rest x t.passed)

  size_is : 4 + length x.body ≡ record_size rest
  size_is =
      ap (λ (y : Shown). 4 + length y.body) (shown_is r place rest x t.passed)
      ∙ ap (λ n. 4 + n) (body_length r place rest x t.passed)

  fits : record_size rest ≤ length rest
  fits = is_whole r place rest x t.passed

  ready : Ready r x.kind
  ready = subst (λ (y : Shown). Ready r y.kind) (sym (shown_is r place rest x t.passed)) (is_ready r place rest x t.passed)

pub returns-in_err-next : goal.returns-in_err-next
returns-in_err-next c =
    let r = c.loop-rest.reader in
    let rest = c.loop-rest.rest.now in
    let total = length c.args.bytes.now in
    let told = c.in_err-next.field-0.0 in
    let head = heads_answer r c.before-in-loop-rest.result (total - length rest) rest (Err told) c.before-in-loop-rest.ensures c.in_err-next.ensures in
    let e = head_stops total r rest (held_from (held r) (records rest)) told (some_left rest c.loop-rest-test.ensures) head in
    let fits = le-ltb 32768 total c.if-bytes-gt-MAX_FILE.false in
    let p = err_from_is_err_and c.from_residual.result c.from_residual.ensures.1 in
    rw (p.1, p.2, fits) (sym e ∙ c.loop-rest.invariant.decides)

pub slice_bounds-rest-count : goal.slice_bounds-rest-count
slice_bounds-rest-count c =
    let t = turn c.loop-rest.reader (length c.args.bytes.now) c.loop-rest-test.ensures c.before-in-loop-rest.ensures c.in_ok-next.ensures in
    omega (arith, c.size.ensures, size_is t, fits t)

pub slice_bounds-rest-start : goal.slice_bounds-rest-start
slice_bounds-rest-start c =
    let t = turn c.loop-rest.reader (length c.args.bytes.now) c.loop-rest-test.ensures c.before-in-loop-rest.ensures c.in_ok-next.ensures in
    let inside : c.size.result ≤ length c.loop-rest.rest.now = omega (arith, c.size.ensures, size_is t, fits t) in
    search rules

pub keep-requires : goal.keep-requires
keep-requires c = ready (turn c.loop-rest.reader (length c.args.bytes.now) c.loop-rest-test.ensures c.before-in-loop-rest.ensures c.in_ok-next.ensures)

pub returns-in_err-reader : goal.returns-in_err-reader
returns-in_err-reader c =
    let r = c.loop-rest.reader in
    let rest = c.loop-rest.rest.now in
    let t = turn c.loop-rest.reader (length c.args.bytes.now) c.loop-rest-test.ensures c.before-in-loop-rest.ensures c.in_ok-next.ensures in
    let e =
    body_stops t (kept (kind rest) (then_held r rest)) (held_from (held r) (records rest)) c.in_err-reader.field-0.0
    (sym (kept_is t) ∙ sym c.in_err-reader.ensures) in
    let fits = le-ltb 32768 (length c.args.bytes.now) c.if-bytes-gt-MAX_FILE.false in
    let p = err_from_is_err_and c.from_residual-in_err-reader.result c.from_residual-in_err-reader.ensures.1 in
    rw (p.1, p.2, fits) (sym e ∙ c.loop-rest.invariant.decides)

-- what is left decides by its bytes, the kind before and the contents so far
same_left : {k k' : ℕ} {c c' : Contents} {ys ys' : List ℕ} (total : ℕ) → k ≡ k' → c ≡ c' → ys ≡ ys' → judged (checks_from total k c (records ys)) (held_from c (records ys)) ≡ judged (checks_from total k' c' (records ys')) (held_from c' (records ys'))
same_left {k} {k'} {c} {c'} {ys} {ys'} total ek ec ey =
    ap (λ j. judged (checks_from total j c (records ys)) (held_from c (records ys))) ek
    ∙ ap (λ d. judged (checks_from total k' d (records ys)) (held_from d (records ys))) ec
    ∙ ap (λ zs. judged (checks_from total k' c' (records zs)) (held_from c' (records zs))) ey

pub loop-rest-preserved : goal.loop-rest-preserved
loop-rest-preserved c =
    let r = c.loop-rest.reader in
    let r' = c.in_ok-reader.reader in
    let rest = c.loop-rest.rest.now in
    let total = length c.args.bytes.now in
    let t = turn r total c.loop-rest-test.ensures c.before-in-loop-rest.ensures c.in_ok-next.ensures in
    let then = kept (kind rest) (then_held r rest) in
    let answered = sym (kept_is t) ∙ sym c.in_ok-reader.ensures in
    let new = judged_value (of_body total r rest) then (so_far r') answered in
    let after_is = take_rest rest c.size.result ∙ ap (λ n. drop n rest) (c.size.ensures ∙ size_is t) in
    let shorter = ap length after_is ∙ length-drop (record_size rest) rest in
    record {
      decides =
          same_left total (ap (λ (s : SoFar). s.last) new) (ap (λ (s : SoFar). s.holds) new) after_is
          ∙ sym (record_passes t then (so_far r') answered) ∙ c.loop-rest.invariant.decides;
      within = omega (arith, c.loop-rest.invariant.within);
    }
