-- One entry decides, or is added and leaves it to the entries that follow.
use Rattle.std.proofs.Common.{◌≡◌, ℕ, ◌+◌, ◌*◌, ◌/◌, ◌%◌, ◌<◌, ◌≤◌, List, [], ◌∷◌, ◌++◌, map, length, get_or, take, drop, Ok, Err, vec_len, sym, refl, ap, ◌∙◌, arith, rules, Result, MatchResult}
use Rattle.std.proofs.lemmas.List.{append-nil, append_assoc, drop-drop, drop-take, get_or-take, length-drop, length_push, nil_from_length, take-take}
use Rattle.std.proofs.lemmas.Bool.{le-ltb, lt-leb, ne_eqb}
use Rattle.std.proofs.lemmas.Result.{err_from_is_err_and}
use Rattle.std.specs.Simd.{first_chunks}
use Rattle.std.specs.Result.{IsErrAnd}
use Rattle.refusals.specs.Checks.{Check, judged, within}
use Rattle.refusals.specs.declared.fault.FolderFault.{FolderFault}
use Rattle.refusals.specs.declared.refusal.Refusal.{Refusal}
use Rattle.refusals.proofs.Judged.{ok_is_no_err, judged_passes, judged_stops, judged_within_err, judged_within_ok}
use Rattle.entries.specs.Drafts.{draft_checks, drafted}
use Rattle.entries.specs.Fields.{entry_checks}
use Rattle.entries.specs.declared.draft.Draft.{Draft}
use Rattle.entries.specs.declared.fields.EntryFields.{EntryFields}
use Rattle.ruleformat.specs.Folders.{at_entry, entries_checks, entries_of, entry_in, entry_pieces, entry_size, fields_of}
use Rattle.ruleformat.proofs.Pieces.{chunk_at, pieces_more}
use Rattle.rulefile.proofs.folder.add_entries.Goals as goal

-- a draft with room, told a number of options in range, judges an entry by the entry's own checks
draft_decides : (d : Draft) (f : EntryFields) → vec_len d.entries < 32 → 1 ≤ d.options → d.options ≤ 64 → judged (draft_checks d f) (tt {0}) ≡ judged (entry_checks d.options d.below f) (tt {0})
draft_decides d f room low high =
    let a = lt-leb 32 (vec_len d.entries) room in
    let b = ne_eqb d.options 0 (λ z. omega arith) in
    let e = le-ltb 64 d.options high in
    simp (a, b, e)

-- a chunk of twelve bytes has the fields of the bytes from its first on
same_fields : (xs : List ℕ) → fields_of (take 12 xs) ≡ fields_of xs
same_fields xs = rw (get_or-take 12 xs 0 0 (omega arith), get_or-take 12 xs 1 0 (omega arith), get_or-take 12 xs 2 0 (omega arith), get_or-take 12 xs 3 0 (omega arith), drop-take 4 8 xs, take-take 8 8 (drop 4 xs) (omega arith))

-- what `add` answers, with each refusal put into the fault of the entry
mapped : {s : Result (Unit {0}) Refusal} {r : Result (Unit {0}) FolderFault} {P : Refusal → FolderFault → Type 0} (place i : ℕ) (cs : List (Check Refusal)) → MatchResult s (λ x. r ≡ Ok x) (λ e. IsErrAnd r (P e)) → ((e : Refusal) (f : FolderFault) → P e f → f ≡ at_entry place i e) → s ≡ judged cs (tt {0}) → r ≡ judged (within (at_entry place i) cs) (tt {0})
mapped {s = Ok x} {r} place i cs m turns e = m ∙ sym (judged_within_ok (tt {0}) (tt {0}) (at_entry place i) cs x (sym e))
mapped {s = Err e} {r} place i cs m turns h =
    let p = err_from_is_err_and r m in
    p.1 ∙ ap Err (turns e p.0 p.2) ∙ sym (judged_within_err (tt {0}) (tt {0}) (at_entry place i) cs e (sym h))

-- an entry that was added was added by `add`
was_added : {s : Result (Unit {0}) Refusal} {r : Result (Unit {0}) FolderFault} (P : Refusal → FolderFault → Type 0) → MatchResult s (λ x. r ≡ Ok x) (λ e. IsErrAnd r (P e)) → r ≡ Ok tt → s ≡ Ok tt
was_added {s = Ok x} P m h = refl
was_added {s = Err e} {r} P m h = absurd (ok_is_no_err (sym h ∙ (err_from_is_err_and r m).1))

-- the bytes that are left after i entries
module _ (n below place i : ℕ) (body : List ℕ) (some : 12 * i < length body) where
  abbrev xs : List ℕ
  xs = drop (12 * i) body

  abbrev ys : List ℕ
  ys = drop (12 * (i + 1)) body

  split : entry_pieces xs ≡ xs ∷ entry_pieces ys
  split =
      pieces_more entry_size xs (omega (arith, length-drop (12 * i) body)) (omega arith)
      ∙ ap (λ zs. xs ∷ entry_pieces zs) (drop-drop 12 (12 * i) body ∙ ap (λ k. drop k body) (omega arith))

  entry_stops : (f : FolderFault) → Err f ≡ judged (within (at_entry place i) (entry_checks n below (fields_of xs))) (tt {0}) → judged (entries_checks n below place i (entry_pieces xs)) (tt {0}) ≡ Err f
  entry_stops f h =
      ap (λ ps. judged (entries_checks n below place i ps) (tt {0})) split
      ∙ judged_stops (tt {0}) (tt {0}) (within (at_entry place i) (entry_checks n below (fields_of xs)))
      (entries_checks n below place (i + 1) (entry_pieces ys)) f (sym h)

  entry_passes : Ok tt ≡ judged (within (at_entry place i) (entry_checks n below (fields_of xs))) (tt {0}) → judged (entries_checks n below place i (entry_pieces xs)) (tt {0}) ≡ judged (entries_checks n below place (i + 1) (entry_pieces ys)) (tt {0})
  entry_passes h =
      ap (λ ps. judged (entries_checks n below place i ps) (tt {0})) split
      ∙ judged_passes (tt {0}) (tt {0}) (within (at_entry place i) (entry_checks n below (fields_of xs)))
      (entries_checks n below place (i + 1) (entry_pieces ys)) tt (sym h)

-- the chunk with number i has the fields of the bytes after i entries
fields_at : {chunks : List (List ℕ)} {f : EntryFields} (body : List ℕ) (i : ℕ) → i < length body / 12 → chunks ≡ first_chunks 12 (length body / 12) body → f ≡ fields_of (get_or chunks i []) → f ≡ fields_of (drop (12 * i) body)
fields_at body i h front e =
    e ∙ ap (λ cs. fields_of (get_or cs i [])) front ∙ ap fields_of (chunk_at 12 (length body / 12) i body [] h)
    ∙ same_fields (drop (12 * i) body)

-- what `add` answers, by the entry's own checks over what the draft was told at first
added : (d : Draft) (f : EntryFields) (n below : ℕ) (xs : List ℕ) → f ≡ fields_of xs → d.options ≡ n → d.below ≡ below → vec_len d.entries < 32 → 1 ≤ n → n ≤ 64 → judged (draft_checks d f) (tt {0}) ≡ judged (entry_checks n below (fields_of xs)) (tt {0})
added d f n below xs ef en eb room low high =
    draft_decides d f room (rw en low) (rw en high)
    ∙ ap (λ m. judged (entry_checks m d.below f) (tt {0})) en
    ∙ ap (λ m. judged (entry_checks n m f) (tt {0})) eb
    ∙ ap (λ g. judged (entry_checks n below g) (tt {0})) ef

-- the same, with each refusal put into the fault of the entry
mapped_added : (d : Draft) (f : EntryFields) (n below place i : ℕ) (xs : List ℕ) → f ≡ fields_of xs → d.options ≡ n → d.below ≡ below → vec_len d.entries < 32 → 1 ≤ n → n ≤ 64 → {s : Result (Unit {0}) Refusal} {r : Result (Unit {0}) FolderFault} {P : Refusal → FolderFault → Type 0} → MatchResult s (λ x. r ≡ Ok x) (λ e. IsErrAnd r (P e)) → ((e : Refusal) (g : FolderFault) → P e g → g ≡ at_entry place i e) → s ≡ judged (draft_checks d f) (tt {0}) → r ≡ judged (within (at_entry place i) (entry_checks n below (fields_of xs))) (tt {0})
mapped_added d f n below place i xs ef en eb room low high cases turns answer =
    mapped place i (entry_checks n below (fields_of xs)) cases turns (answer ∙ added d f n below xs ef en eb room low high)

pub loop-item-init : goal.loop-item-init
loop-item-init c =
    let none = c.requires.empty in
    record {
      decides = refl;
      added = ap (λ es. es ++ entries_of c.args.body.bytes.now) none;
      count = ap length none;
      options = refl;
      below = refl;
    }

pub returns-in_err-map_err-clause-answer : goal.returns-in_err-map_err-clause-answer
returns-in_err-map_err-clause-answer c =
    let d = c.loop-item.draft in
    let i = c.loop-item.item-counter in
    let body = c.args.body.bytes.now in
    let inv = c.loop-item.invariant in
    let n = c.args.draft.now.options in
    let below = c.args.draft.now.below in
    let inside : i < length body / 12 = omega (arith, c.as_chunks.ensures.front_len, c.loop-item-test.true) in
    let some : 12 * i < length body = omega arith in
    let room : vec_len d.entries < 32 = omega (arith, d.entries.ok.0, inv.count, c.requires.whole) in
    let fields = fields_at body i inside c.as_chunks.ensures.front c.read_fields.ensures in
    let told = mapped_added d c.read_fields.result n below c.args.body.place i (drop (12 * i) body) fields inv.options inv.below room c.requires.told.0 c.requires.told.1 c.map_err.ensures.cases (λ e f k. search rules) c.add.ensures.answer in
    let e = entry_stops n below c.args.body.place i body some c.in_err-map_err.field-0.0 (sym c.in_err-map_err.was ∙ told) in
    let p = err_from_is_err_and c.from_residual.result c.from_residual.ensures.1 in
    rw (p.1, p.2) (sym e ∙ inv.decides)

pub loop-item-preserved : goal.loop-item-preserved
loop-item-preserved c =
    let d = c.loop-item.draft in
    let d' = c.add.new.self in
    let i = c.loop-item.item-counter in
    let body = c.args.body.bytes.now in
    let inv = c.loop-item.invariant in
    let n = c.args.draft.now.options in
    let below = c.args.draft.now.below in
    let inside : i < length body / 12 = omega (arith, c.as_chunks.ensures.front_len, c.loop-item-test.true) in
    let some : 12 * i < length body = omega arith in
    let room : vec_len d.entries < 32 = omega (arith, d.entries.ok.0, inv.count, c.requires.whole) in
    let fields = fields_at body i inside c.as_chunks.ensures.front c.read_fields.ensures in
    let told = mapped_added d c.read_fields.result n below c.args.body.place i (drop (12 * i) body) fields inv.options inv.below room c.requires.told.0 c.requires.told.1 c.map_err.ensures.cases (λ e f k. search rules) c.add.ensures.answer in
    let e = entry_passes n below c.args.body.place i body some (sym c.in_ok-map_err.was ∙ told) in
    let ok : c.add.result ≡ Ok tt = was_added _ c.map_err.ensures.cases c.in_ok-map_err.was in
    let grown : drafted d' ≡ drafted d ++ entry_in (drop (12 * i) body) ∷ [] = rw (ok, fields) at c.add.ensures.entries in
    let all =
    ap (λ es. es ++ entries_of (drop (12 * (i + 1)) body)) grown
    ∙ append_assoc (drafted d) (entry_in (drop (12 * i) body) ∷ []) (entries_of (drop (12 * (i + 1)) body))
    ∙ ap (λ ps. drafted d ++ map entry_in ps) (sym (split n below c.args.body.place i body some)) ∙ inv.added in
    record {
      decides = sym e ∙ inv.decides;
      added = all;
      count = omega (arith, ap length grown, length_push (drafted d) (entry_in (drop (12 * i) body)), inv.count);
      options = c.add.ensures.options ∙ inv.options;
      below = c.add.ensures.below ∙ inv.below;
    }

-- after the last entry nothing is left
none_left : (body : List ℕ) (i : ℕ) → length body / 12 ≤ i → length body % 12 ≡ 0 → drop (12 * i) body ≡ []
none_left body i h whole = nil_from_length (drop (12 * i) body) (omega (arith, length-drop (12 * i) body))

pub returns-clause-answer : goal.returns-clause-answer
returns-clause-answer c =
    let i = c.loop-item.item-counter in
    let n = c.args.draft.now.options in
    let below = c.args.draft.now.below in
    let body = c.args.body.bytes.now in
    let past : length body / 12 ≤ i = omega (arith, c.as_chunks.ensures.front_len, c.loop-item-test.false) in
    let none = none_left body i past c.requires.whole.0 in
    ap (λ zs. judged (entries_checks n below c.args.body.place i (entry_pieces zs)) (tt {0})) (sym none) ∙ c.loop-item.invariant.decides

pub returns-clause-entries : goal.returns-clause-entries
returns-clause-entries c =
    let i = c.loop-item.item-counter in
    let body = c.args.body.bytes.now in
    let past : length body / 12 ≤ i = omega (arith, c.as_chunks.ensures.front_len, c.loop-item-test.false) in
    let none = none_left body i past c.requires.whole.0 in
    sym (append-nil (drafted c.loop-item.draft)) ∙ ap (λ zs. drafted c.loop-item.draft ++ entries_of zs) (sym none) ∙ c.loop-item.invariant.added
