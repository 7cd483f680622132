-- One row decides, or leaves it to the rows that follow.
use Rattle.std.proofs.Common.{◌≡◌, ℕ, ◌+◌, ◌*◌, ◌/◌, ◌^◌, ◌<◌, true, false, nat_le, List, [], ◌∷◌, map, length, take, drop, get_or, Err, sym, ap, ◌∙◌, arith}
use Rattle.std.proofs.lemmas.List.{drop-drop, get_or-take, length-drop}
use Rattle.std.specs.Int.{from_le_bytes, w16}
use Rattle.std.specs.Simd.{first_chunks}
use Rattle.refusals.specs.Checks.{judged}
use Rattle.refusals.specs.declared.fault.SheetFault.TheVariants.{Item}
use Rattle.refusals.specs.declared.refusal.Refusal.TheVariants.{OutOfRange}
use Rattle.ruleformat.specs.Bytes.{pieces}
use Rattle.ruleformat.specs.Tables.{row_checks, row_of, row_size, rows_in}
use Rattle.ruleformat.proofs.Pieces.{chunk_at, pieces_more}
use Rattle.sheets.proofs.table.check_rows.Goals as goal

-- a pair stands for the same row as the bytes from its first on
same_row : (xs : List ℕ) → from_le_bytes w16 (take 2 xs) ≡ row_of xs
same_row xs = rw (get_or-take 2 xs 0 0 (omega arith), get_or-take 2 xs 1 0 (omega arith)) (omega arith)

row_at : {pairs : List (List ℕ)} {r : ℕ} (rows : List ℕ) (i : ℕ) → i < length rows / 2 → pairs ≡ first_chunks 2 (length rows / 2) rows → r ≡ from_le_bytes w16 (get_or pairs i []) → r ≡ row_of (drop (2 * i) rows)
row_at rows i h front e =
    e ∙ ap (λ ps. from_le_bytes w16 (get_or ps i [])) front
    ∙ ap (from_le_bytes w16) (chunk_at 2 (length rows / 2) i rows [] h) ∙ same_row (drop (2 * i) rows)

-- the rows that are left after i of them
module _ (w place i : ℕ) (rows : List ℕ) (some : 2 * i < length rows) where
  abbrev xs : List ℕ
  xs = drop (2 * i) rows

  abbrev ys : List ℕ
  ys = drop (2 * (i + 1)) rows

  split : judged (row_checks w place i (rows_in xs)) (tt {0}) ≡ judged (row_checks w place i (row_of xs ∷ rows_in ys)) (tt {0})
  split =
      ap (λ ps. judged (row_checks w place i (map row_of ps)) (tt {0}))
      (pieces_more row_size xs (omega (arith, length-drop (2 * i) rows)) (omega arith)
      ∙ ap (λ zs. xs ∷ pieces row_size 0 zs) (drop-drop 2 (2 * i) rows ∙ ap (λ k. drop k rows) (omega arith)))

  row_stops : nat_le (2 ^ w) (row_of xs) ≡ true → judged (row_checks w place i (rows_in xs)) (tt {0}) ≡ Err (Item OutOfRange place i)
  row_stops bad = split ∙ rw bad

  row_passes : nat_le (2 ^ w) (row_of xs) ≡ false → judged (row_checks w place i (rows_in xs)) (tt {0}) ≡ judged (row_checks w place (i + 1) (rows_in ys)) (tt {0})
  row_passes fit = split ∙ rw fit

pub returns-then-has_bit_from : goal.returns-then-has_bit_from
returns-then-has_bit_from c =
    let i = c.loop-item.item in
    let w = c.args.columns in
    let rows = c.args.rows.now in
    let inside : i < length rows / 2 = omega (arith, c.as_chunks.ensures.front_len, c.loop-item-test.true) in
    let some : 2 * i < length rows = omega arith in
    let row = c.from.ensures ∙ row_at rows i inside c.as_chunks.ensures.front c.from_le_bytes.ensures in
    let bad = ap (nat_le (2 ^ w)) (sym row) ∙ sym c.if-has_bit_from.ensures.answer in
    sym (row_stops w c.args.place i rows some bad) ∙ c.loop-item.invariant

pub loop-item-preserved : goal.loop-item-preserved
loop-item-preserved c =
    let i = c.loop-item.item in
    let w = c.args.columns in
    let rows = c.args.rows.now in
    let inside : i < length rows / 2 = omega (arith, c.as_chunks.ensures.front_len, c.loop-item-test.true) in
    let some : 2 * i < length rows = omega arith in
    let row = c.from.ensures ∙ row_at rows i inside c.as_chunks.ensures.front c.from_le_bytes.ensures in
    let fit = ap (nat_le (2 ^ w)) (sym row) ∙ sym c.if-has_bit_from.ensures.answer in
    sym (row_passes w c.args.place i rows some fit) ∙ c.loop-item.invariant
