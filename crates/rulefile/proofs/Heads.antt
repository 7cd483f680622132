-- What a record's head tells once its checks have passed.
use Rattle.std.proofs.Common.{◌≡◌, ℕ, zero, suc, ◌+◌, ◌<◌, ◌≤◌, false, eqb, List, [], ◌∷◌, length, drop, Ok, vec_items, vec_len, Result, sym, ap, ◌∙◌, arith}
use Rattle.std.proofs.lemmas.List.{length-drop, length-map, length-take-le}
use Rattle.std.proofs.lemmas.Bool.{eqb-true, leb-false, ltb-false, not-false}
use Rattle.refusals.specs.Checks.{Check, judged}
use Rattle.refusals.specs.declared.fault.RecordFault.{RecordFault}
use Rattle.refusals.proofs.Judged.{judged_head, judged_tail, judged_value}
use Rattle.ruleformat.specs.Clauses.{clauses_of}
use Rattle.ruleformat.specs.Contents.{sheets}
use Rattle.ruleformat.specs.Kinds.{out_of_turn}
use Rattle.ruleformat.specs.Records.{body, body_size, head_checks, kind, one_too_many, record_size}
use Rattle.ruleformat.specs.Tables.{table_of}
use Rattle.entries.specs.Drafts.{drafted}
use Rattle.sheets.specs.Views.{clause_body, table_body}
use Rattle.rulefile.specs.Codes.{last_code}
use Rattle.rulefile.specs.Held.{Ready, held, summed}
use Rattle.rulefile.specs.Views.{Shown, whole}
use Rattle.rulefile.specs.declared.reader.Reader.{Reader}
use Rattle.rulefile.specs.declared.record.Before.{Before}

sheets_are : (r : Reader) → vec_len r.file.parts.tables + vec_len r.file.parts.clauses ≡ sheets (held r)
sheets_are r =
    let ts = length-map (vec_items r.file.parts.tables) (λ t. table_of (table_body t)) in
    let ss = length-map (vec_items r.file.parts.clauses) (λ s. clauses_of (clause_body s)) in
    omega (arith, r.file.parts.tables.ok.0, r.file.parts.clauses.ok.0)

folders_are : (r : Reader) → vec_len r.file.parts.folders ≡ length (held r).folders
folders_are r = r.file.parts.folders.ok.0 ∙ sym (length-map (vec_items r.file.parts.folders) drafted)

-- the checks of the next record's head, by what the reader holds
abbrev pub heads : Reader → ℕ → List ℕ → List (Check RecordFault)
heads r place rest = head_checks (last_code r.last) (sheets (held r)) (length (held r).folders) place rest

-- an answer by what was summed up is one by what the reader holds
pub heads_answer : (r : Reader) (b : Before) (place : ℕ) (rest : List ℕ) (x : Result Shown RecordFault) → b ≡ summed r → x ≡ judged (head_checks b.kind b.sheets b.folders place rest) (whole place rest) → judged (heads r place rest) (whole place rest) ≡ x
heads_answer r b place rest x e h =
    sym
    (h ∙ ap (λ (y : Before). judged (head_checks y.kind y.sheets y.folders place rest) (whole place rest)) e
    ∙ ap (λ s. judged (head_checks (last_code r.last) s (vec_len r.file.parts.folders) place rest) (whole place rest)) (sheets_are r)
    ∙ ap (λ f. judged (head_checks (last_code r.last) (sheets (held r)) f place rest) (whole place rest)) (folders_are r))

turn : (before k : ℕ) → out_of_turn before k ≡ false → 1 < k → 0 < before
turn zero k h l = let one = eqb-true k 1 (not-false (eqb k 1) h) in omega arith
turn (suc b) k h l = omega arith

room_at : (s f k j : ℕ) → one_too_many s f k ≡ false → k ≡ j → one_too_many s f j ≡ false
room_at s f k j h e = rw e at h

-- none of the checks holds
abbrev NoneHolds : List (Check RecordFault) → Type 0
NoneHolds [] = Unit {0}
NoneHolds (c ∷ cs) = (c.holds ≡ false) × NoneHolds cs

none_holds : {A : Type 0} (cs : List (Check RecordFault)) (a x : A) → judged cs a ≡ Ok x → NoneHolds cs
none_holds [] a x h = tt
none_holds (c ∷ cs) a x h = (judged_head c cs a x h, none_holds cs a x (judged_tail c cs a x h))

module _ (r : Reader) (place : ℕ) (rest : List ℕ) (x : Shown) (h : judged (heads r place rest) (whole place rest) ≡ Ok x) where
  pub shown_is : x ≡ whole place rest
  shown_is = judged_value (heads r place rest) (whole place rest) x h

  none : NoneHolds (heads r place rest)
  none = none_holds (heads r place rest) (whole place rest) x h

  pub is_whole : record_size rest ≤ length rest
  is_whole = ltb-false (length rest) (record_size rest) none.1.1.1.1.0

  pub body_length : length (body rest) ≡ body_size rest
  body_length =
      length-take-le (body_size rest) (drop 4 rest) (omega (arith, length-drop 4 rest, is_whole))

  room : (j : ℕ) → kind rest ≡ j → one_too_many (sheets (held r)) (length (held r).folders) j ≡ false
  room j e = room_at (sheets (held r)) (length (held r).folders) (kind rest) j none.1.1.1.0 e

  few : sheets (held r) < 32 → vec_len r.file.parts.tables + vec_len r.file.parts.clauses < 32
  few l = omega (arith, sheets_are r)

  pub is_ready : Ready r (kind rest)
  is_ready = (
    turn (last_code r.last) (kind rest) none.1.1.0,
    λ e. few (leb-false 32 (sheets (held r)) (room 2 e)),
    λ e. few (leb-false 32 (sheets (held r)) (room 3 e)),
    λ e. let l = leb-false 4 (length (held r).folders) (room 4 e) in omega (arith, folders_are r),
  )
