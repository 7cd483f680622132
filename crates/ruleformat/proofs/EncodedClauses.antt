-- An encoded clause sheet reads back as its clauses, and passes its checks where they fit.
use Rattle.std.proofs.Common.{◌≡◌, ℕ, suc, ◌+◌, ◌*◌, ◌/◌, ◌%◌, ◌<◌, ◌≤◌, Bool, true, false, cond, ◌||◌, eqb, ltb, leb, List, [], ◌∷◌, ◌++◌, map, length, sym, refl, ap, ◌∙◌, subst, ap₂, arith, length-append}
use lib.ListN.{length-map}
use Rattle.std.proofs.lemmas.List.{take_at}
use Rattle.std.proofs.lemmas.Bool.{le-leb, le-ltb, lt-leb, ne_eqb, or_from}
use Rattle.std.proofs.lemmas.Bool.Decides.{nat_tests}
use Rattle.std.specs.List.{list_any}
use Rattle.ruleformat.specs.Clauses.{clause_checks, clause_of, clause_pieces, clause_size, clauses_checks, clauses_of, option_of, unfit_clause, wanted_bytes, wanted_checks, wanted_of}
use Rattle.ruleformat.specs.Contents.{Wanted}
use Rattle.ruleformat.specs.Encoding.{encode_clause, encode_sheet, encode_wanted}
use Rattle.ruleformat.specs.Laws.{Byte}
use Rattle.ruleformat.specs.WellFormed.{ClauseFits, ClausesFit, Each, Rising, option}
use Rattle.ruleformat.proofs.Each.{each_joined, each_map}
use Rattle.refusals.proofs.Passing.{Passing, passing_append}
use Rattle.ruleformat.proofs.Pieces.{pieces_joined}

-- the byte of an option o below 64 that is wanted no where g
module _ (o : ℕ) (small : o < 64) where
  option_read : (g : Bool) → cond g (128 + o) o % 64 ≡ o
  option_read true = omega arith
  option_read false = omega arith

  negated_read : (g : Bool) → leb 128 (cond g (128 + o) o) ≡ g
  negated_read true = le-leb 128 (128 + o) (omega arith)
  negated_read false = lt-leb 128 o (omega arith)

  six_clear : (g : Bool) → eqb ((cond g (128 + o) o / 64) % 2) 1 ≡ false
  six_clear true = ne_eqb (((128 + o) / 64) % 2) 1 (λ e. omega arith)
  six_clear false = ne_eqb ((o / 64) % 2) 1 (λ e. omega arith)

  wanted_byte : (g : Bool) → cond g (128 + o) o < 256
  wanted_byte true = omega arith
  wanted_byte false = omega arith

wanted_read : (w : Wanted) → w.option < 64 → wanted_of (encode_wanted w) ≡ w
wanted_read w h = λ i. record { option = option_read w.option h w.negated i; negated = negated_read w.option h w.negated i }

abbrev encode_values : List Wanted → List ℕ
encode_values ws = map encode_wanted ws

first_clause : (ws : List Wanted) (tail : List ℕ) → clause_pieces (encode_clause ws ++ tail) ≡ (encode_clause ws ++ tail) ∷ clause_pieces tail
first_clause ws tail = pieces_joined clause_size (encode_clause ws) tail (omega arith) (omega (arith, length-map ws encode_wanted))

values_are : (ws : List Wanted) (tail : List ℕ) → wanted_bytes (encode_clause ws ++ tail) ≡ encode_values ws
values_are ws tail = take_at (encode_values ws) tail (length ws) (length-map ws encode_wanted)

-- k values wanted, in at least l bytes
shape_fits : (k l : ℕ) → 1 ≤ k → k ≤ 16 → 1 + k ≤ l → (eqb k 0 || (ltb 16 k || ltb l (1 + k))) ≡ false
shape_fits k l some few long = grind (arith, nat_tests)

sheet_count : (cs : List (List Wanted)) → length (clause_pieces (encode_sheet cs)) ≡ length cs
sheet_count [] = refl
sheet_count (ws ∷ cs) = ap length (first_clause ws (encode_sheet cs)) ∙ ap suc (sheet_count cs)

module _ (n : ℕ) (few : n ≤ 64) where
  values_read : (low : ℕ) (ws : List Wanted) → Rising n low (map option ws) → map wanted_of (encode_values ws) ≡ ws
  values_read low [] h = refl
  values_read low (w ∷ ws) h = ap₂ ◌∷◌ (wanted_read w (omega arith)) (values_read (w.option + 1) ws h.2)

  values_pass : (place i low : ℕ) (ws : List Wanted) → Rising n low (map option ws) → Passing (wanted_checks n place i low (encode_values ws))
  values_pass place i low [] h = tt
  values_pass place i low (w ∷ ws) h =
      let small : w.option < 64 = omega arith in
      let o : ℕ = option_of (encode_wanted w) in
      let same : w.option ≡ o = sym (option_read w.option small w.negated) in
      let more = subst (λ p. Passing (wanted_checks n place i (p + 1) (encode_values ws))) same (values_pass place i (w.option + 1) ws h.2) in
      (six_clear w.option small w.negated, (lt-leb n o (omega (arith, same)), (le-ltb o low (omega (arith, same)), more)))

  values_bytes : (low : ℕ) (ws : List Wanted) → Rising n low (map option ws) → Each Byte (encode_values ws)
  values_bytes low [] h = tt
  values_bytes low (w ∷ ws) h = (wanted_byte w.option (omega arith) w.negated, values_bytes (w.option + 1) ws h.2)

  clauses_read : (cs : List (List Wanted)) → Each (ClauseFits n) cs → clauses_of (encode_sheet cs) ≡ cs
  clauses_read [] h = refl
  clauses_read (ws ∷ cs) h =
      ap (map clause_of) (first_clause ws (encode_sheet cs))
      ∙ ap₂ ◌∷◌ (ap (map wanted_of) (values_are ws (encode_sheet cs)) ∙ values_read 0 ws h.0.rising) (clauses_read cs h.1)

  clauses_fit : (cs : List (List Wanted)) → Each (ClauseFits n) cs → list_any unfit_clause (clause_pieces (encode_sheet cs)) ≡ false
  clauses_fit [] h = refl
  clauses_fit (ws ∷ cs) h =
      let rest = encode_clause ws ++ encode_sheet cs in
      let long : 1 + length ws ≤ length rest = omega (arith, length-append (encode_values ws) (encode_sheet cs), length-map ws encode_wanted) in
      ap (list_any unfit_clause) (first_clause ws (encode_sheet cs))
      ∙ or_from (eqb (length ws) 0 || (ltb 16 (length ws) || ltb (length rest) (1 + length ws))) (list_any unfit_clause (clause_pieces (encode_sheet cs)))
      (shape_fits (length ws) (length rest) h.0.some_value h.0.few_values long) (clauses_fit cs h.1)

  clauses_pass : (place i : ℕ) (cs : List (List Wanted)) → Each (ClauseFits n) cs → Passing (clause_checks n place i (clause_pieces (encode_sheet cs)))
  clauses_pass place i [] h = tt
  clauses_pass place i (ws ∷ cs) h =
      let rest = encode_clause ws ++ encode_sheet cs in
      subst (λ ps. Passing (clause_checks n place i ps)) (sym (first_clause ws (encode_sheet cs)))
      (passing_append (wanted_checks n place i 0 (wanted_bytes rest)) (clause_checks n place (i + 1) (clause_pieces (encode_sheet cs)))
      (subst (λ bs. Passing (wanted_checks n place i 0 bs)) (sym (values_are ws (encode_sheet cs))) (values_pass place i 0 ws h.0.rising))
      (clauses_pass place (i + 1) cs h.1))

  clauses_length : (cs : List (List Wanted)) → Each (ClauseFits n) cs → length (encode_sheet cs) ≤ 17 * length cs
  clauses_length [] h = omega arith
  clauses_length (ws ∷ cs) h =
      omega (arith, clauses_length cs h.1, h.0.few_values, length-append (encode_values ws) (encode_sheet cs), length-map ws encode_wanted)

  clause_bytes : (ws : List Wanted) → ClauseFits n ws → Each Byte (encode_clause ws)
  clause_bytes ws h = let k : length ws < 256 = omega (arith, h.few_values) in (k, values_bytes 0 ws h.rising)

  module _ (cs : List (List Wanted)) (fits : ClausesFit n cs) where
    pub sheet_read : clauses_of (encode_sheet cs) ≡ cs
    sheet_read = clauses_read cs fits.each_fits

    pub sheet_passes : (place : ℕ) → Passing (clauses_checks n place (encode_sheet cs))
    sheet_passes place = (
      or_from (list_any unfit_clause (clause_pieces (encode_sheet cs))) (ltb 256 (length (clause_pieces (encode_sheet cs)))) (clauses_fit cs fits.each_fits)
          (le-ltb 256 (length (clause_pieces (encode_sheet cs))) (omega (arith, sheet_count cs, fits.few_clauses))),
      clauses_pass place 0 cs fits.each_fits,
    )

    pub sheet_length : length (encode_sheet cs) ≤ 4352
    sheet_length = omega (arith, clauses_length cs fits.each_fits, fits.few_clauses)

    pub sheet_bytes : Each Byte (encode_sheet cs)
    sheet_bytes = each_joined Byte encode_clause cs (each_map (ClauseFits n) (λ ws. Each Byte (encode_clause ws)) cs clause_bytes fits.each_fits)
