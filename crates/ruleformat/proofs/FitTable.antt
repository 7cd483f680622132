-- A table's body that passes its checks is the encoding of a fit table.
use Rattle.std.proofs.Common.{◌≡◌, ℕ, ◌+◌, ◌-◌, ◌/◌, ◌%◌, ◌^◌, ◌<◌, ◌≤◌, false, ◌||◌, eqb, ltb, List, [], ◌∷◌, ◌++◌, length, take, drop, sym, refl, ap, ◌∙◌, not-suc-le-zero, arith}
use Rattle.std.specs.List.{flat_map}
use Rattle.std.proofs.lemmas.List.{drop-drop, length-drop, length-map, length-take-le, take-append-drop}
use Rattle.std.proofs.lemmas.Bool.{leb-false, ltb-false}
use Rattle.std.proofs.lemmas.Bool.Decides.{nat_tests}
use Rattle.ruleformat.specs.Bytes.{pieces}
use Rattle.ruleformat.specs.Encoding.{bytes_of, encode_table}
use Rattle.ruleformat.specs.Laws.{Byte}
use Rattle.ruleformat.specs.Tables.{column_checks, columns_of, row_checks, row_of, row_size, rows_in, rows_of, table_checks, table_of, width}
use Rattle.ruleformat.specs.WellFormed.{Each, Rising, TableFits}
use Rattle.ruleformat.proofs.Each.{each_drop}
use Rattle.ruleformat.proofs.Numbers.{two_encoded}
use Rattle.refusals.proofs.Passing.{Passing, passing_parts}
use Rattle.ruleformat.proofs.Pieces.{Kept, even_pieces, pieces_encoded, pieces_keep}

columns_rise : (n place i low : ℕ) (cs : List ℕ) → Passing (column_checks n place i low cs) → Rising n low cs
columns_rise n place i low [] h = tt
columns_rise n place i low (c ∷ cs) h =
    (ltb-false c low h.1.0, leb-false n c h.0, columns_rise n place (i + 1) (c + 1) cs h.1.1)

rows_within : (w place i : ℕ) (rs : List ℕ) → Passing (row_checks w place i rs) → Each (λ r. r < 2 ^ w) rs
rows_within w place i [] h = tt
rows_within w place i (r ∷ rs) h = (leb-false (2 ^ w) r h.0, rows_within w place (i + 1) rs h.1)

-- a body of l bytes with w columns
fit_sizes : (w l : ℕ) → (eqb w 0 || (ltb 16 w || (ltb l (1 + w) || (eqb ((l - (1 + w)) % 2) 1 || ltb 512 (l - (1 + w)))))) ≡ false → (1 ≤ w) × (w ≤ 16) × (1 + w ≤ l) × ((l - (1 + w)) % 2 ≡ 0) × (l - (1 + w) ≤ 512)
fit_sizes w l h = (grind (arith, nat_tests), grind (arith, nat_tests), grind (arith, nat_tests), grind (arith, nat_tests), grind (arith, nat_tests))

row_kept : (rest : List ℕ) → Each Byte rest → 2 ≤ length rest → Kept row_size row_of (bytes_of 2) rest
row_kept [] h l = absurd (not-suc-le-zero l)
row_kept (a ∷ []) h l = absurd (omega arith)
row_kept (a ∷ b ∷ bs) h l = (omega arith, l, two_encoded a b h.0 h.1.0)

rows_kept : (rests : List (List ℕ)) → Each (Each Byte) rests → Each (λ rest. 2 ≤ length rest) rests → Each (Kept row_size row_of (bytes_of 2)) rests
rows_kept [] h l = tt
rows_kept (r ∷ rs) h l = (row_kept r h.0 l.0, rows_kept rs h.1 l.1)

module _ (bs : List ℕ) (bytes : Each Byte bs) (whole : length bs % 2 ≡ 0) where
  rows_even : (length (pieces row_size 0 bs) ≡ length bs / 2) × Each (λ rest. 2 ≤ length rest) (pieces row_size 0 bs)
  rows_even = even_pieces row_size 2 (omega arith) (λ rest. refl) (length bs / 2) bs (omega arith)

  rows_count : length (rows_in bs) ≡ length bs / 2
  rows_count = length-map (pieces row_size 0 bs) row_of ∙ rows_even.0

  rows_encoded : flat_map (bytes_of 2) (rows_in bs) ≡ bs
  rows_encoded =
      pieces_encoded row_size row_of (bytes_of 2) (length bs) bs (omega arith)
      (rows_kept (pieces row_size 0 bs) (pieces_keep Byte row_size 0 bs bytes) rows_even.1)

table_encoded : (body : List ℕ) → 1 + width body ≤ length body → flat_map (bytes_of 2) (rows_of body) ≡ drop (1 + width body) body → encode_table (table_of body) ≡ body
table_encoded [] l e = absurd (omega arith)
table_encoded (w ∷ bs) l e =
    let s : length (take w bs) ≡ w = length-take-le w bs (omega arith) in
    let d : flat_map (bytes_of 2) (rows_of (w ∷ bs)) ≡ drop w bs = e ∙ sym (drop-drop w 1 (w ∷ bs)) in
    ap (λ k. k ∷ (take w bs ++ flat_map (bytes_of 2) (rows_of (w ∷ bs)))) s
    ∙ ap (λ ys. w ∷ (take w bs ++ ys)) d
    ∙ ap (λ ys. w ∷ ys) (take-append-drop w bs)

columns_count : (body : List ℕ) → 1 + width body ≤ length body → length (columns_of body) ≡ width body
columns_count body l = length-take-le (width body) (drop 1 body) (omega (arith, length-drop 1 body))

pub table_fits : (n place : ℕ) (body : List ℕ) → Each Byte body → Passing (table_checks n place body) → TableFits n (table_of body) × (encode_table (table_of body) ≡ body)
table_fits n place body bytes h =
    let s = fit_sizes (width body) (length body) h.0 in
    let p = passing_parts (column_checks n place 0 0 (columns_of body)) (row_checks (width body) place 0 (rows_of body)) h.1 in
    let left : List ℕ = drop (1 + width body) body in
    let l : length left ≡ length body - (1 + width body) = length-drop (1 + width body) body in
    let m : length left % 2 ≡ 0 = omega (arith, s.3) in
    let k = columns_count body s.2 in
    let r = rows_count left (each_drop Byte (1 + width body) body bytes) m in (
      record {
        some_column = omega arith;
        few_columns = omega arith;
        rising = columns_rise n place 0 0 (columns_of body) p.0;
        few_rows = omega arith;
        in_columns = rw k (rows_within (width body) place 0 (rows_of body) p.1);
      },
      table_encoded body s.2 (rows_encoded left (each_drop Byte (1 + width body) body bytes) m),
    )
