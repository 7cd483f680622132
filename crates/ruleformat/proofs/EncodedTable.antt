-- An encoded table reads back as the table, and passes its checks where the table fits.
use Rattle.std.proofs.Common.{◌≡◌, ℕ, ◌+◌, ◌-◌, ◌*◌, ◌%◌, ◌^◌, ◌<◌, ◌≤◌, false, ◌||◌, eqb, ltb, List, [], ◌∷◌, map, length, sym, refl, ap, ◌∙◌, subst, ap₂, arith, length-append, pow_mono}
use Rattle.std.specs.List.{flat_map}
use Rattle.std.proofs.lemmas.List.{drop_at, take_at}
use Rattle.std.proofs.lemmas.Bool.{le-ltb, lt-leb}
use Rattle.std.proofs.lemmas.Bool.Decides.{nat_tests}
use Rattle.ruleformat.specs.Contents.{Table}
use Rattle.ruleformat.specs.Encoding.{bytes_of, encode_table}
use Rattle.ruleformat.specs.Laws.{Byte}
use Rattle.ruleformat.specs.Tables.{column_checks, columns_of, row_checks, row_of, row_size, rows_in, rows_of, table_checks, table_of, unfit_table}
use Rattle.ruleformat.specs.WellFormed.{Each, Rising, TableFits}
use Rattle.ruleformat.proofs.Each.{each_append, each_joined, each_map}
use Rattle.ruleformat.proofs.Numbers.{bytes_each, two_of_bytes}
use Rattle.refusals.proofs.Passing.{Passing, passing_append}
use Rattle.ruleformat.proofs.Pieces.{pieces_joined}

abbrev encode_rows : List ℕ → List ℕ
encode_rows rs = flat_map (bytes_of 2) rs

rows_read : (rs : List ℕ) → Each (λ r. r < 65536) rs → rows_in (encode_rows rs) ≡ rs
rows_read [] h = refl
rows_read (r ∷ rs) h =
    ap (map row_of) (pieces_joined row_size (bytes_of 2 r) (encode_rows rs) (omega arith) refl)
    ∙ ap₂ ◌∷◌ (two_of_bytes r h.0) (rows_read rs h.1)

rows_length : (rs : List ℕ) → length (encode_rows rs) ≡ 2 * length rs
rows_length [] = refl
rows_length (r ∷ rs) = omega (arith, rows_length rs)

columns_pass : (n place i low : ℕ) (cs : List ℕ) → Rising n low cs → Passing (column_checks n place i low cs)
columns_pass n place i low [] h = tt
columns_pass n place i low (c ∷ cs) h = (lt-leb n c h.1, (le-ltb c low h.0, columns_pass n place (i + 1) (c + 1) cs h.2))

rows_pass : (w place i : ℕ) (rs : List ℕ) → Each (λ r. r < 2 ^ w) rs → Passing (row_checks w place i rs)
rows_pass w place i [] h = tt
rows_pass w place i (r ∷ rs) h = (lt-leb (2 ^ w) r h.0, rows_pass w place (i + 1) rs h.1)

rising_below : (n low : ℕ) (xs : List ℕ) → Rising n low xs → Each (λ x. x < n) xs
rising_below n low [] h = tt
rising_below n low (x ∷ xs) h = (h.1, rising_below n (x + 1) xs h.2)

-- w columns and r rows, in l bytes
shape_fits : (w r l : ℕ) → 1 ≤ w → w ≤ 16 → r ≤ 256 → l ≡ 1 + (w + 2 * r) → (eqb w 0 || (ltb 16 w || (ltb l (1 + w) || (eqb ((l - (1 + w)) % 2) 1 || ltb 512 (l - (1 + w)))))) ≡ false
shape_fits w r l some few rows e =
    let left : l - (1 + w) ≡ 2 * r = omega arith in
    let even : (2 * r) % 2 ≡ 0 = omega arith in
    rw left (grind (arith, nat_tests))

module _ (n : ℕ) (t : Table) (fits : TableFits n t) where
  columns_are : columns_of (encode_table t) ≡ t.columns
  columns_are = take_at t.columns (encode_rows t.rows) (length t.columns) refl

  small_rows : Each (λ r. r < 65536) t.rows
  small_rows =
      let p : 2 ^ length t.columns ≤ 2 ^ 16 = pow_mono fits.few_columns in
      each_map (λ r. r < 2 ^ length t.columns) (λ r. r < 65536) t.rows (λ r h. omega (arith, p)) fits.in_columns

  rows_are : rows_of (encode_table t) ≡ t.rows
  rows_are =
      ap rows_in (drop_at (length t.columns ∷ t.columns) (encode_rows t.rows) (1 + length t.columns) (omega arith))
      ∙ rows_read t.rows small_rows

  pub table_read : table_of (encode_table t) ≡ t
  table_read = λ i. record { columns = columns_are i; rows = rows_are i }

  pub table_length : length (encode_table t) ≡ 1 + (length t.columns + 2 * length t.rows)
  table_length = omega (arith, length-append t.columns (encode_rows t.rows), rows_length t.rows)

  table_fit : unfit_table (encode_table t) ≡ false
  table_fit =
      shape_fits (length t.columns) (length t.rows) (length (encode_table t)) fits.some_column fits.few_columns
      fits.few_rows table_length

  pub table_passes : (place : ℕ) → Passing (table_checks n place (encode_table t))
  table_passes place = (
    table_fit,
    passing_append (column_checks n place 0 0 (columns_of (encode_table t)))
        (row_checks (length t.columns) place 0 (rows_of (encode_table t)))
        (subst (λ cs. Passing (column_checks n place 0 0 cs)) (sym columns_are) (columns_pass n place 0 0 t.columns fits.rising))
        (subst (λ rs. Passing (row_checks (length t.columns) place 0 rs)) (sym rows_are)
        (rows_pass (length t.columns) place 0 t.rows fits.in_columns)),
  )

  pub table_bytes : n ≤ 64 → Each Byte (encode_table t)
  table_bytes few =
      let w : length t.columns < 256 = omega (arith, fits.few_columns) in (
        w,
        each_append Byte t.columns (encode_rows t.rows)
            (each_map (λ x. x < n) Byte t.columns (λ x h. omega arith) (rising_below n 0 t.columns fits.rising))
            (each_joined Byte (bytes_of 2) t.rows (each_map (λ r. r < 65536) (λ r. Each Byte (bytes_of 2 r)) t.rows (λ r h. bytes_each 2 r) small_rows)),
      )
