-- A row agrees exactly if it fits the masks of what is known.
use Rattle.std.proofs.Common.{◌≡◌, ℕ, ◌+◌, ◌*◌, ◌/◌, ◌%◌, ◌<◌, ◌≤◌, min, Bool, true, false, not, eqb, ◌⊎◌, List, [], ◌∷◌, reverse, sym, refl, ap, ◌∙◌, ap₂, inl, inr, mod-eq_of_lt, arith}
use lib.Bits.{bit_and, and_le_l, and_mod, and_step, and_zero_r}
use Rattle.std.specs.List.{fold}
use Rattle.std.proofs.lemmas.List.{reverse-append}
use Rattle.std.proofs.lemmas.List.Sums.{fold_push}
use Rattle.std.specs.Cmp.{both_ways as same_answer}
use Rattle.std.proofs.lemmas.Bool.{and_from, and_parts, cases_lt, eq-eqb, eqb-true, not_from_false, not-true}
use Rattle.assignment.specs.Knows.{knows}
use Rattle.assignment.specs.Size.{bit}
use Rattle.assignment.specs.declared.assignment.Assignment.{Assignment}
use Rattle.sheet_rules.specs.Agreement.{agrees, odd}
use Rattle.sheet_rules.specs.declared.known.Known.{Known}
use Rattle.sheet_rules.specs.Marks.{fits, known_of, led_by}

-- the columns known to have a value, as a mask of any length
abbrev marks : Bool → List ℕ → Assignment → ℕ
marks v [] a = 0
marks v (c ∷ cs) a = 2 * marks v cs a + bit (knows a c v)

known_yes : (cs : List ℕ) (a : Assignment) → (known_of cs a).yes ≡ min (marks true cs a) 65536
unfolding known_of
known_yes [] a = refl
known_yes (c ∷ cs) a = let e = known_yes cs a in omega arith

known_no : (cs : List ℕ) (a : Assignment) → (known_of cs a).no ≡ marks false cs a % 65536
unfolding known_of
known_no [] a = refl
known_no (c ∷ cs) a = let e = known_no cs a in omega arith

-- the masks are gathered from the last column on
pub known_fold : (cs : List ℕ) (a : Assignment) → fold (λ k c. led_by c a k) (record { yes = 0; no = 0 }) (reverse cs) ≡ known_of cs a
unfolding known_of
known_fold [] a = refl
known_fold (c ∷ cs) a =
    let step : Known → ℕ → Known = λ k o. led_by o a k in
    let none : Known = record { yes = 0; no = 0 } in
    ap (fold step none) (reverse-append (c ∷ []) cs) ∙ fold_push step none (reverse cs) c ∙ ap (led_by c a) (known_fold cs a)

bit_small : (b : Bool) → bit b < 2
bit_small true = omega arith
bit_small false = omega arith

bit_none : (b : Bool) → b ≡ false → bit b ≡ 0
bit_none b e = ap bit e

none_bit : (b : Bool) → bit b ≡ 0 → b ≡ false
none_bit true e = absurd (omega arith)
none_bit false e = refl

low_cases : (n : ℕ) → (n % 2 ≡ 0) ⊎ (n % 2 ≡ 1)
low_cases n = go (cases_lt (n % 2) 1)
  where
    go : (n % 2 < 1) ⊎ (1 ≤ n % 2) → (n % 2 ≡ 0) ⊎ (n % 2 ≡ 1)
    go (inl h) = inl (omega arith)
    go (inr h) = inr (omega arith)

and_double : (x m b : ℕ) → b < 2 → bit_and x (2 * m + b) ≡ bit_and (x / 2) m * 2 + min (x % 2) b
and_double x m b h =
    let half : (2 * m + b) / 2 ≡ m = omega arith in
    let low : (2 * m + b) % 2 ≡ b = omega arith in
    and_step x (2 * m + b) ∙ ap₂ (λ p q. bit_and (x / 2) p * 2 + min (x % 2) q) half low

-- the row has no bit that is known no, and all that are known yes
Within : List ℕ → ℕ → Assignment → Type 0
Within cs row a =
    (bit_and row (marks false cs a) ≡ 0) × (bit_and row (marks true cs a) ≡ marks true cs a)

module _ (c : ℕ) (cs : List ℕ) (row : ℕ) (a : Assignment) where
  no_step : bit_and row (marks false (c ∷ cs) a) ≡ bit_and (row / 2) (marks false cs a) * 2 + min (row % 2) (bit (knows a c false))
  no_step = and_double row (marks false cs a) (bit (knows a c false)) (bit_small (knows a c false))

  yes_step : bit_and row (marks true (c ∷ cs) a) ≡ bit_and (row / 2) (marks true cs a) * 2 + min (row % 2) (bit (knows a c true))
  yes_step = and_double row (marks true cs a) (bit (knows a c true)) (bit_small (knows a c true))

  first_within : knows a c (not (odd row)) ≡ false → Within cs (row / 2) a → Within (c ∷ cs) row a
  unfolding Within
  first_within e w = go (low_cases row)
    where
      go : (row % 2 ≡ 0) ⊎ (row % 2 ≡ 1) → Within (c ∷ cs) row a
      go (inl l) =
          let z = bit_none (knows a c true) (ap (λ r. knows a c (not (eqb r 1))) (sym l) ∙ e) in
          (no_step ∙ omega (arith, w.0), yes_step ∙ omega (arith, w.1))
      go (inr l) =
          let z = bit_none (knows a c false) (ap (λ r. knows a c (not (eqb r 1))) (sym l) ∙ e) in
          let s = bit_small (knows a c true) in
          (no_step ∙ omega (arith, w.0), yes_step ∙ omega (arith, w.1))

  within_first : Within (c ∷ cs) row a → (knows a c (not (odd row)) ≡ false) × Within cs (row / 2) a
  unfolding Within
  within_first w =
      (go (low_cases row), (omega (arith, no_step, w.0), omega (arith, yes_step, w.1, bit_small (knows a c true))))
    where
      go : (row % 2 ≡ 0) ⊎ (row % 2 ≡ 1) → knows a c (not (odd row)) ≡ false
      go (inl l) =
          ap (λ r. knows a c (not (eqb r 1))) l
          ∙ none_bit (knows a c true) (omega (arith, yes_step, w.1, bit_small (knows a c true)))
      go (inr l) =
          ap (λ r. knows a c (not (eqb r 1))) l
          ∙ none_bit (knows a c false) (omega (arith, no_step, w.0, bit_small (knows a c false)))

agrees_within : (cs : List ℕ) (row : ℕ) (a : Assignment) → agrees cs row a ≡ true → Within cs row a
unfolding agrees Within
agrees_within [] row a e = (and_zero_r row, and_zero_r row)
agrees_within (c ∷ cs) row a e =
    let p = and_parts _ _ e in
    first_within c cs row a (not-true _ p.0) (agrees_within cs (row / 2) a p.1)

within_agrees : (cs : List ℕ) (row : ℕ) (a : Assignment) → Within cs row a → agrees cs row a ≡ true
unfolding agrees
within_agrees [] row a w = refl
within_agrees (c ∷ cs) row a w =
    let p = within_first c cs row a w in
    and_from _ _ (not_from_false _ p.0) (within_agrees cs (row / 2) a p.1)

-- a row of 16 bits is held to masks of any length as to those that are kept
module _ (row : ℕ) (small : row < 65536) where
  no_kept : (m : ℕ) → bit_and row (m % 65536) ≡ bit_and row m
  no_kept m =
      let below = and_le_l row m in
      ap (λ r. bit_and r (m % 65536)) (sym (mod-eq_of_lt small)) ∙ sym (and_mod row m 16) ∙ omega arith

  yes_kept : (m : ℕ) → bit_and row m ≡ m → bit_and row (min m 65536) ≡ min m 65536
  yes_kept m e =
      let below = and_le_l row m in
      let all : min m 65536 ≡ m = omega arith in
      ap (bit_and row) all ∙ e ∙ sym all

  kept_yes : (m : ℕ) → bit_and row (min m 65536) ≡ min m 65536 → bit_and row m ≡ m
  kept_yes m e =
      let below = and_le_l row (min m 65536) in
      let all : min m 65536 ≡ m = omega arith in
      ap (bit_and row) (sym all) ∙ e ∙ all

  fits_within : (cs : List ℕ) (a : Assignment) → fits (known_of cs a) row ≡ true → Within cs row a
  unfolding Within
  fits_within cs a e =
      let p = and_parts _ _ e in
      let k = known_of cs a in
      let n : bit_and row k.no ≡ 0 = eqb-true (bit_and row k.no) 0 p.0 in
      let y : bit_and row k.yes ≡ k.yes = eqb-true (bit_and row k.yes) k.yes p.1 in (
        sym (no_kept (marks false cs a)) ∙ ap (bit_and row) (sym (known_no cs a)) ∙ n,
        kept_yes (marks true cs a) (ap (bit_and row) (sym (known_yes cs a)) ∙ y ∙ known_yes cs a),
      )

  within_fits : (cs : List ℕ) (a : Assignment) → Within cs row a → fits (known_of cs a) row ≡ true
  unfolding Within
  within_fits cs a w =
      let k = known_of cs a in
      and_from _ _
      (eq-eqb (bit_and row k.no) 0 (ap (bit_and row) (known_no cs a) ∙ no_kept (marks false cs a) ∙ w.0))
      (eq-eqb (bit_and row k.yes) k.yes
      (ap (bit_and row) (known_yes cs a) ∙ yes_kept (marks true cs a) w.1 ∙ sym (known_yes cs a)))

  pub fits_agrees : (cs : List ℕ) (a : Assignment) → fits (known_of cs a) row ≡ agrees cs row a
  fits_agrees cs a =
      same_answer (fits (known_of cs a) row) (agrees cs row a) (λ e. within_agrees cs row a (fits_within cs a e))
      (λ e. within_fits cs a (agrees_within cs row a e))
