-- What is read is well-formed, and its encoding is the file: the walk over the records.
use Rattle.std.proofs.Common.{◌≡◌, ℕ, zero, suc, ◌-◌, ◌<◌, ◌≤◌, false, eqb, List, [], ◌∷◌, ◌++◌, length, drop, sym, refl, ap, ◌∙◌, subst, not-suc-le-zero, arith}
use Rattle.std.proofs.lemmas.List.{append_assoc, append-nil, length-drop, take-append-drop}
use Rattle.std.proofs.lemmas.Bool.{eqb-true, ltb-false, not-false, true≢false}
use Rattle.refusals.specs.Checks.{within}
use Rattle.refusals.specs.declared.fault.FileFault.TheVariants.{Record}
use Rattle.refusals.proofs.Judged.{judged_value}
use Rattle.ruleformat.specs.Contents.{Contents, nothing, sheets}
use Rattle.ruleformat.specs.Encoding.{encode, encode_record}
use Rattle.ruleformat.specs.Kinds.{out_of_turn, unknown}
use Rattle.ruleformat.specs.Laws.{AcceptedIsEncoded, Byte}
use Rattle.ruleformat.specs.Reading.{body_checks, checks, checks_from, contents, held_from, record_checks, with_record}
use Rattle.ruleformat.specs.Records.{body, body_size, head_checks, kind, one_too_many, record_size, records}
use Rattle.ruleformat.specs.WellFormed.{Each, WellFormed}
use Rattle.ruleformat.proofs.Each.{each_drop, each_take}
use Rattle.ruleformat.proofs.Held.{Held, one_more, started}
use Rattle.refusals.proofs.Passing.{Passing, accepted_passes, passing_parts, passing_unwrapped}
use Rattle.ruleformat.proofs.Pieces.{pieces_more}
use Rattle.ruleformat.proofs.Records.{record_encoded}
use Rattle.ruleformat.proofs.Turns.{known_kind}

-- what the checks say of the first record that is left, and of those after it
record Leading (total k : ℕ) (c : Contents) (rest : List ℕ) : Type 0 where
  headed : 4 ≤ length rest
  known : unknown (kind rest) ≡ false
  turn : out_of_turn k (kind rest) ≡ false
  room : one_too_many (sheets c) (length c.folders) (kind rest) ≡ false
  uncut : record_size rest ≤ length rest
  fits : Passing (body_checks (kind rest) (total - length rest) (body rest) c)
  more : Passing (checks_from total (kind rest) (with_record (kind rest) (body rest) c) (records (drop (record_size rest) rest)))

cut_off : (rest : List ℕ) → 0 < length rest → records rest ≡ rest ∷ records (drop (record_size rest) rest)
cut_off rest l = pieces_more record_size rest l (omega arith)

first : (total k : ℕ) (c : Contents) (rest : List ℕ) → 0 < length rest → Passing (checks_from total k c (records rest)) → Leading total k c rest
first total k c rest l h =
    let next : Contents = with_record (kind rest) (body rest) c in
    let place : ℕ = total - length rest in
    let heads = head_checks k (sheets c) (length c.folders) place rest in
    let all : Passing (checks_from total k c (rest ∷ records (drop (record_size rest) rest))) =
    subst (λ rs. Passing (checks_from total k c rs)) (cut_off rest l) h in
    let p =
    passing_parts (record_checks k place rest c)
    (checks_from total (kind rest) next (records (drop (record_size rest) rest))) all in
    let q = passing_parts (within Record heads) (body_checks (kind rest) place (body rest) c) p.0 in
    let t = passing_unwrapped Record heads q.0 in
    record {
      headed = ltb-false (length rest) 4 t.0;
      known = t.1.0;
      turn = t.1.1.0;
      room = t.1.1.1.0;
      uncut = ltb-false (length rest) (record_size rest) t.1.1.1.1.0;
      fits = q.1;
      more = p.1;
    }

-- c is all that the file holds
abbrev Finished : Contents → List ℕ → Type 0
Finished c file = (length file ≤ 32768 → WellFormed c) × (encode c ≡ file)

finished : (c : Contents) (before : List ℕ) → Held 5 c before → Finished c before
finished c before h =
    let w = h.wholly refl in
    let fit : length before ≤ 32768 → WellFormed c =
    λ l.
    record {
      some_option = h.start_fit.some_option;
      few_options = h.start_fit.few_options;
      yes_within = h.start_fit.yes_within;
      no_within = h.start_fit.no_within;
      consistent = h.start_fit.consistent;
      few_sheets = h.few_sheets;
      tables_fit = h.tables_fit;
      clauses_fit = h.clauses_fit;
      few_folders = h.few_folders;
      folders_fit = h.folders_fit;
      asked_known = w.0;
      short = subst (λ bs. length bs ≤ 32768) (sym w.1) l;
    } in
    (fit, w.1)

-- a record and what follows it
rejoined : (before rest : List ℕ) → Each Byte rest → 4 ≤ length rest → record_size rest ≤ length rest → (before ++ encode_record (kind rest) (body rest)) ++ drop (record_size rest) rest ≡ before ++ rest
rejoined before rest bytes l m =
    append_assoc before (encode_record (kind rest) (body rest)) (drop (record_size rest) rest)
    ∙ ap (λ ys. before ++ (ys ++ drop (record_size rest) rest)) (record_encoded rest bytes l m)
    ∙ ap (λ ys. before ++ ys) (take-append-drop (record_size rest) rest)

body_bytes : (rest : List ℕ) → Each Byte rest → Each Byte (body rest)
body_bytes rest h = each_take Byte (body_size rest) (drop 4 rest) (each_drop Byte 4 rest h)

-- m bounds the bytes that are left
walk : (m total k : ℕ) (c : Contents) (before rest : List ℕ) → length rest ≤ m → 1 ≤ k → Each Byte rest → Held k c before → Passing (checks_from total k c (records rest)) → Finished (held_from c (records rest)) (before ++ rest)
walk m total k c before [] l some bytes held h =
    let e : k ≡ 5 = eqb-true k 5 (not-false (eqb k 5) h.0) in
    subst (Finished c) (sym (append-nil before)) (finished c before (subst (λ j. Held j c before) e held))
walk zero total k c before (x ∷ xs) l some bytes held h = absurd (not-suc-le-zero l)
walk (suc m) total k c before (x ∷ xs) l some bytes held h =
    let rest : List ℕ = x ∷ xs in
    let f = first total k c rest (omega arith) h in
    let now = one_more k (total - length rest) c before (body rest) some held (body_bytes rest bytes) (kind rest) f.known f.turn f.room f.fits in
    let left : List ℕ = drop (record_size rest) rest in
    let s : length left ≤ m = omega (arith, length-drop (record_size rest) rest) in
    let r =
    walk m total (kind rest) (with_record (kind rest) (body rest) c) (before ++ encode_record (kind rest) (body rest)) left s
    (known_kind (kind rest) f.known).0 (each_drop Byte (record_size rest) rest bytes) now f.more in
    rw (cut_off rest (omega arith)) (subst (Finished (held_from c (rest ∷ records left))) (rejoined before rest bytes f.headed f.uncut) r)

whole_file : (total : ℕ) (file : List ℕ) → Each Byte file → Passing (checks_from total 0 nothing (records file)) → Finished (held_from nothing (records file)) file
whole_file total [] bytes h = absurd (true≢false h.0)
whole_file total (x ∷ xs) bytes h =
    let rest : List ℕ = x ∷ xs in
    let f = first total 0 nothing rest (omega arith) h in
    let one : kind rest ≡ 1 = eqb-true (kind rest) 1 (not-false (eqb (kind rest) 1) f.turn) in
    let now = started (kind rest) (total - length rest) (body rest) (body_bytes rest bytes) one f.fits in
    let left : List ℕ = drop (record_size rest) rest in
    let r =
    walk (length left) total (kind rest) (with_record (kind rest) (body rest) nothing) (encode_record (kind rest) (body rest)) left
    (omega arith) (known_kind (kind rest) f.known).0 (each_drop Byte (record_size rest) rest bytes) now f.more in
    rw (cut_off rest (omega arith)) (subst (Finished (held_from nothing (rest ∷ records left))) (rejoined [] rest bytes f.headed f.uncut) r)

pub accepted_is_encoded : AcceptedIsEncoded
accepted_is_encoded file c bytes h =
    let p = accepted_passes (checks file) (contents file) c h in
    let e : c ≡ contents file = judged_value (checks file) (contents file) c h in
    let w = whole_file (length file) file bytes p.1 in
    let l = ltb-false 32768 (length file) p.0 in
    subst (λ d. WellFormed d × (encode d ≡ file)) (sym e) (w.0 l, w.1)
