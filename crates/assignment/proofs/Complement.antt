-- The complement of a mask, as `!` makes it.
use Rattle.std.proofs.Common.{◌≡◌, ℕ, zero, suc, nat_eq, ◌-◌, ◌/◌, ◌%◌, ◌^◌, ◌<◌, not, ◌&&◌, ◌==◌, lt_of_le_of_lt, refl, sym, ap, ◌∙◌, arith, bit_and}
use Rattle.std.specs.Int.{w64}
use Rattle.std.proofs.lemmas.Nat.{and_le_l}
use Rattle.std.proofs.lemmas.Nat.Bits.{bit_at_not, bit_at-lt}
use Rattle.assignment.specs.Knows.{has}
use Rattle.assignment.specs.Lattice.{all, less, less_fits}
use Rattle.assignment.specs.Masks.{has_and, has_rest, mask_ext}

-- the complement of a mask has the bits that the mask does not have
has_not : (h i : ℕ) → h < 2 ^ 64 → i < 64 → has (all - h) i ≡ not (has h i)
has_not h i fits below =
    ap (λ n. nat_eq n 1) (bit_at_not w64 h i fits below) ∙ turned (h / 2 ^ i % 2) (bit_at-lt h i)
  where
    turned : (b : ℕ) → b < 2 → (1 - b == 1) ≡ not (b == 1)
    turned zero l = refl
    turned (suc zero) l = refl
    turned (suc (suc b)) l = absurd (omega arith)

-- what is in a mask and in the complement of another
pub and_not : (x h : ℕ) → x < 2 ^ 64 → h < 2 ^ 64 → bit_and x (all - h) ≡ less x h
and_not x h fits fits_h =
    mask_ext 64 (bit_and x (all - h)) (less x h) (lt_of_le_of_lt (and_le_l x (all - h)) fits) (less_fits x h fits)
    (λ i below. has_and x (all - h) i ∙ ap (λ b. has x i && b) (has_not h i fits_h below) ∙ sym (has_rest x h i))
