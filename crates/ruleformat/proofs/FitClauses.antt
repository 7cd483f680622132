-- A clause sheet's body that passes its checks is the encoding of fit clauses.
use Rattle.std.proofs.Common.{◌≡◌, ℕ, suc, ◌+◌, ◌<◌, ◌≤◌, false, ◌||◌, eqb, ltb, List, [], ◌∷◌, map, length, take, drop, refl, ap, ◌∙◌, not-suc-le-zero, arith}
use Rattle.std.proofs.lemmas.List.{length-drop, length-map, length-take-le}
use Rattle.std.proofs.lemmas.Bool.{leb-false, ltb-false, or_parts}
use Rattle.std.proofs.lemmas.Bool.Decides.{nat_tests}
use Rattle.std.specs.List.{list_any}
use Rattle.ruleformat.specs.Clauses.{bit_six, clause_checks, clause_of, clause_pieces, clause_size, clauses_checks, clauses_of, option_of, unfit_clause, wanted_bytes, wanted_checks, wanted_of, wants}
use Rattle.ruleformat.specs.Encoding.{encode_clause, encode_sheet, encode_wanted}
use Rattle.ruleformat.specs.Laws.{Byte}
use Rattle.ruleformat.specs.WellFormed.{ClauseFits, ClausesFit, Each, Rising, option}
use Rattle.ruleformat.proofs.Each.{each_drop, each_take}
use Rattle.refusals.proofs.Passing.{Passing, passing_parts}
use Rattle.ruleformat.proofs.Pieces.{Kept, pieces_encoded, pieces_keep}

wanted_encoded : (b : ℕ) → b < 256 → bit_six b ≡ false → encode_wanted (wanted_of b) ≡ b
wanted_encoded b l h = grind (arith, nat_tests)

values_fit : (n place i low : ℕ) (bs : List ℕ) → Each Byte bs → Passing (wanted_checks n place i low bs) → Rising n low (map option (map wanted_of bs)) × (map encode_wanted (map wanted_of bs) ≡ bs)
values_fit n place i low [] bytes h = (tt, refl)
values_fit n place i low (b ∷ bs) bytes h =
    let r = values_fit n place i (option_of b + 1) bs bytes.1 h.1.1.1 in
    let e = wanted_encoded b bytes.0 h.0 in (
      (ltb-false (option_of b) low h.1.1.0, leb-false n (option_of b) h.1.0, r.0),
      ap (λ x. x ∷ map encode_wanted (map wanted_of bs)) e ∙ ap (λ xs. b ∷ xs) r.1,
    )

-- a clause of w wanted values from l bytes on
fit_sizes : (w l : ℕ) → (eqb w 0 || (ltb 16 w || ltb l (1 + w))) ≡ false → (1 ≤ w) × (w ≤ 16) × (1 + w ≤ l)
fit_sizes w l h = (grind (arith, nat_tests), grind (arith, nat_tests), grind (arith, nat_tests))

clause_front : (rest : List ℕ) → 0 < length rest → wants rest ∷ wanted_bytes rest ≡ take (clause_size rest) rest
clause_front [] l = absurd (not-suc-le-zero l)
clause_front (w ∷ bs) l = let e : 1 + w ≡ suc w = omega arith in rw e

-- the bytes from a clause's first on
module _ (n place i : ℕ) (rest : List ℕ) (bytes : Each Byte rest) (fit : unfit_clause rest ≡ false) (h : Passing (wanted_checks n place i 0 (wanted_bytes rest))) where
  sizes : (1 ≤ wants rest) × (wants rest ≤ 16) × (1 + wants rest ≤ length rest)
  sizes = fit_sizes (wants rest) (length rest) fit

  values : Rising n 0 (map option (clause_of rest)) × (map encode_wanted (clause_of rest) ≡ wanted_bytes rest)
  values = values_fit n place i 0 (wanted_bytes rest) (each_take Byte (wants rest) (drop 1 rest) (each_drop Byte 1 rest bytes)) h

  count : length (clause_of rest) ≡ wants rest
  count =
      length-map (wanted_bytes rest) wanted_of
      ∙ length-take-le (wants rest) (drop 1 rest) (omega (arith, length-drop 1 rest, sizes.2))

  clause_kept : ClauseFits n (clause_of rest) × Kept clause_size clause_of encode_clause rest
  clause_kept =
      let e : encode_clause (clause_of rest) ≡ take (clause_size rest) rest =
      ap (λ j. j ∷ map encode_wanted (clause_of rest)) count ∙ ap (λ xs. wants rest ∷ xs) values.1 ∙ clause_front rest (omega (arith, sizes.2)) in
      (record { some_value = omega (arith, count, sizes.0); few_values = omega (arith, count, sizes.1); rising = values.0 }, (omega arith, sizes.2, e))

clauses_kept : (n place i : ℕ) (rests : List (List ℕ)) → Each (Each Byte) rests → list_any unfit_clause rests ≡ false → Passing (clause_checks n place i rests) → Each (ClauseFits n) (map clause_of rests) × Each (Kept clause_size clause_of encode_clause) rests
clauses_kept n place i [] bytes fit h = (tt, tt)
clauses_kept n place i (r ∷ rs) bytes fit h =
    let f = or_parts (unfit_clause r) (list_any unfit_clause rs) fit in
    let p = passing_parts (wanted_checks n place i 0 (wanted_bytes r)) (clause_checks n place (i + 1) rs) h in
    let one = clause_kept n place i r bytes.0 f.0 p.0 in
    let more = clauses_kept n place (i + 1) rs bytes.1 f.1 p.1 in
    ((one.0, more.0), (one.1, more.1))

pub sheet_fits : (n place : ℕ) (body : List ℕ) → Each Byte body → Passing (clauses_checks n place body) → ClausesFit n (clauses_of body) × (encode_sheet (clauses_of body) ≡ body)
sheet_fits n place body bytes h =
    let f = or_parts (list_any unfit_clause (clause_pieces body)) (ltb 256 (length (clause_pieces body))) h.0 in
    let r = clauses_kept n place 0 (clause_pieces body) (pieces_keep Byte clause_size 0 body bytes) f.0 h.1 in
    let l = ltb-false 256 (length (clause_pieces body)) f.1 in (
      record { few_clauses = omega (arith, length-map (clause_pieces body) clause_of); each_fits = r.0 },
      pieces_encoded clause_size clause_of encode_clause (length body) body (omega arith) r.1,
    )
