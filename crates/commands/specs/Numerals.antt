-- The digits of a number.
use Rattle.std.specs.Prelude.{ℕ, ◌+◌, ◌-◌, ◌*◌, ◌^◌, Bool, true, false, not, cond, ◌&&◌, ◌==◌, nat_lt, nat_le, List, [], ◌∷◌, length, Option, None, Some}
use Rattle.std.specs.Char.{is_ascii_digit}
use Rattle.std.specs.List.{list_all}

-- the number that digits write, after those that make a number so far
abbrev pub value_of : ℕ → List ℕ → ℕ
value_of n [] = n
value_of n (c ∷ cs) = value_of (10 * n + (c - 48)) cs

abbrev pub begins_well : List ℕ → Bool
begins_well [] = false
begins_well (c ∷ []) = true
begins_well (c ∷ d ∷ cs) = not (c == 48)

abbrev pub is_numeral : List ℕ → Bool
is_numeral ds = nat_le (length ds) 10 && (begins_well ds && list_all is_ascii_digit ds)

abbrev pub of_32_bits : ℕ → Option ℕ
of_32_bits n = cond (nat_lt n (2 ^ 32)) (Some n) None

abbrev pub number_in : List ℕ → Option ℕ
number_in ds = cond (is_numeral ds) (of_32_bits (value_of 0 ds)) None
