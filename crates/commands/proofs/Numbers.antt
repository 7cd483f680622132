-- What digits write, and that a numeral is the decimal form of its number.
use Rattle.std.proofs.Common.{◌≡◌, ℕ, zero, suc, ◌+◌, ◌-◌, ◌*◌, ◌^◌, ◌<◌, ◌≤◌, Bool, true, false, not, ◌&&◌, cond, nat_lt, nat_le, List, [], ◌∷◌, length, get_or, None, Some, arith, rules, refl, sym, ap, ◌∙◌}
use Rattle.std.specs.Char.{is_ascii_digit}
use Rattle.std.specs.Fmt.{decimal}
use Rattle.std.specs.List.{list_all}
use Rattle.std.proofs.lemmas.Bool.{eq-eqb, false≢true, le-leb, lt-ltb, ltb-true, ne_eqb}
use Rattle.std.proofs.lemmas.Fmt.{decimal_digit, decimal-digits_value, decimal_nonempty, digits_decimal, digits_value-decimal, first_decimal, length-decimal-le}
use Rattle.std.proofs.lemmas.Str.Parse.{IsNumeralModel, numerals_by_fold, digits_value_short}
use Rattle.commands.specs.Numerals.{begins_well, is_numeral, number_in, of_32_bits, value_of}

and_left : (a b : Bool) → (a && b) ≡ true → a ≡ true
and_left true b h = refl
and_left false b h = h

and_right : (a b : Bool) → (a && b) ≡ true → b ≡ true
and_right true b h = h
and_right false b h = absurd (false≢true h)

pub own : IsNumeralModel (λ ds. list_all is_ascii_digit ds ≡ true) (value_of 0)
own = numerals_by_fold _ (search rules) value_of (search rules)

pub value_grows : (n : ℕ) (ds : List ℕ) → n ≤ value_of n ds
value_grows n [] = omega arith
value_grows n (c ∷ cs) = omega (arith, value_grows (10 * n + (c - 48)) cs)

-- the value so far of at most ten digits is small
pub value_small : (n : ℕ) (rest ds : List ℕ) → value_of n rest ≡ value_of 0 ds → list_all is_ascii_digit ds ≡ true → length ds ≤ 10 → n < 10 ^ 10
value_small n rest ds e p short =
    omega (arith, value_grows n rest, digits_value_short own ds 10 p short)

-- the decimal form of a number of 32 bits is a numeral that writes it

begins_by : (ds : List ℕ) → 0 < length ds → 48 < get_or ds 0 0 → begins_well ds ≡ true
begins_by [] some h = absurd (omega arith)
begins_by (c ∷ []) some h = refl
begins_by (c ∷ d ∷ ds) some h = ap not (ne_eqb c 48 (λ e. omega arith))

decimal_begins : (n : ℕ) → n < 2 ^ 64 → begins_well (decimal n) ≡ true
decimal_begins zero h = ap begins_well (decimal_digit 0 (omega arith))
decimal_begins (suc n) h = begins_by (decimal (suc n)) (decimal_nonempty (suc n) h) (first_decimal (suc n) (omega arith) h)

pub number_printed : (n : ℕ) → n < 2 ^ 32 → number_in (decimal n) ≡ Some n
number_printed n h =
    let wide : n < 2 ^ 64 = omega arith in
    ap (λ b. cond (b && (begins_well (decimal n) && list_all is_ascii_digit (decimal n))) (of_32_bits (value_of 0 (decimal n))) None)
    (le-leb (length (decimal n)) 10 (length-decimal-le 10 n (omega arith) (omega arith) wide))
    ∙ ap (λ b. cond (b && list_all is_ascii_digit (decimal n)) (of_32_bits (value_of 0 (decimal n))) None) (decimal_begins n wide)
    ∙ ap (λ b. cond b (of_32_bits (value_of 0 (decimal n))) None) (digits_decimal own n wide)
    ∙ ap of_32_bits (digits_value-decimal own n wide)
    ∙ ap (λ b. cond b (Some n) None) (lt-ltb n (2 ^ 32) h)

-- and a numeral is the decimal form of what it writes

well_some : (ds : List ℕ) → begins_well ds ≡ true → 0 < length ds
well_some [] h = absurd (false≢true h)
well_some (c ∷ ds) h = omega arith

well_alone : (ds : List ℕ) → begins_well ds ≡ true → get_or ds 0 0 ≡ 48 → length ds ≡ 1
well_alone [] h e = absurd (false≢true h)
well_alone (c ∷ []) h e = refl
well_alone (c ∷ d ∷ ds) h e = absurd (false≢true (sym (ap not (eq-eqb c 48 e)) ∙ h))

pub numeral_printed : (ds : List ℕ) (n : ℕ) → number_in ds ≡ Some n → (n < 2 ^ 32) × (ds ≡ decimal n)
numeral_printed ds n = numeral (is_numeral ds) refl
  where
    small : (b : Bool) → nat_lt (value_of 0 ds) (2 ^ 32) ≡ b → is_numeral ds ≡ true → cond b (Some (value_of 0 ds)) None ≡ Some n → (n < 2 ^ 32) × (ds ≡ decimal n)
    small true e is h =
        let at : value_of 0 ds ≡ n = cc in
        let fits : value_of 0 ds < 2 ^ 32 = ltb-true (value_of 0 ds) (2 ^ 32) e in
        let rest = and_right (nat_le (length ds) 10) (begins_well ds && list_all is_ascii_digit ds) is in
        let well = and_left (begins_well ds) (list_all is_ascii_digit ds) rest in
        let digits = and_right (begins_well ds) (list_all is_ascii_digit ds) rest in (
          omega arith,
          sym (decimal-digits_value own ds digits (well_some ds well) (well_alone ds well) (omega arith)) ∙ ap decimal at,
        )
    small false e is h = cc

    numeral : (b : Bool) → is_numeral ds ≡ b → cond b (of_32_bits (value_of 0 ds)) None ≡ Some n → (n < 2 ^ 32) × (ds ≡ decimal n)
    numeral true e h = small (nat_lt (value_of 0 ds) (2 ^ 32)) refl e h
    numeral false e h = cc
