-- Shifts of a mask of 64 bits by any width: what is shifted out is lost, and from 64 on that is all.
use Rattle.std.proofs.Common.{◌≡◌, ℕ, ◌-◌, ◌*◌, ◌%◌, ◌^◌, ◌<◌, ◌≤◌, ◌⊎◌, Bool, false, not, ◌&&◌, nat_le, nat_lt, inl, inr, sym, ap, ◌∙◌, arith, lt_of_le_of_lt, lt_of_lt_of_le, mod-lt, pow_mono, bit_and}
use Rattle.std.proofs.Math.Nat.{mod-le}
use Rattle.std.proofs.Math.Bool.{and-false, and-true}
use Rattle.std.proofs.lemmas.Bool.{cases_lt, le-leb, le-ltb, lt-leb, lt-ltb}
use Rattle.assignment.specs.Knows.{has}
use Rattle.assignment.specs.Lattice.{all, bits_from, less, less_fits}
use Rattle.assignment.specs.Laws.{bits_from_has}
use Rattle.assignment.specs.Masks.{has_all, down_past, has_beyond, has_low, has_raised, has_rest, has_zero, mask_ext, up_past}
use Rattle.assignment.proofs.Complement.{and_not}

pub has_past : (m i : ℕ) → m < 2 ^ 64 → 64 ≤ i → has m i ≡ false
has_past m i fits h = has_beyond 64 m i fits h

pub bound_past : (m k : ℕ) → m < 2 ^ 64 → 64 ≤ k → nat_le (2 ^ k) m ≡ false
bound_past m k fits h = lt-leb (2 ^ k) m (lt_of_lt_of_le fits (pow_mono h))

-- all bits shifted up are the bits from there on
bits_from_fit : (first : ℕ) → bits_from first < 2 ^ 64
bits_from_fit first = less_fits all (all % 2 ^ first) (omega arith)

pub bits_from_up : (first : ℕ) → first < 64 → all * 2 ^ first % 2 ^ 64 ≡ bits_from first
bits_from_up first h =
    mask_ext 64 (all * 2 ^ first % 2 ^ 64) (bits_from first) (mod-lt _ (omega arith)) (bits_from_fit first)
    (λ i l.
    has_low (all * 2 ^ first) 64 i ∙ ap (λ b. b && has (all * 2 ^ first) i) (lt-ltb i 64 l) ∙ has_raised all first i
    ∙ ap (λ b. nat_le first i && b) (has_all 64 (i - first) (omega arith)) ∙ and-true (nat_le first i) ∙ sym (bits_from_has first i l))

pub bits_from_past : (first : ℕ) → 64 ≤ first → bits_from first ≡ 0
bits_from_past first h =
    mask_ext 64 (bits_from first) 0 (bits_from_fit first) (omega arith)
    (λ i l. bits_from_has first i l ∙ lt-leb first i (omega arith) ∙ sym (has_zero i))

-- without these, the bits below are left
pub low_left : (m width : ℕ) → m < 2 ^ 64 → bit_and m (all - bits_from width) ≡ m % 2 ^ width
low_left m width fits =
    and_not m (bits_from width) fits (bits_from_fit width)
    ∙ mask_ext 64 (less m (bits_from width)) (m % 2 ^ width) (less_fits m (bits_from width) fits)
    (lt_of_le_of_lt (mod-le m (2 ^ width)) fits)
    (λ i l.
    has_rest m (bits_from width) i ∙ ap (λ b. has m i && not b) (bits_from_has width i l) ∙ below (has m i) i (cases_lt i width)
    ∙ sym (has_low m width i))
  where
    below : (b : Bool) (i : ℕ) → (i < width) ⊎ (width ≤ i) → (b && not (nat_le width i)) ≡ (nat_lt i width && b)
    below b i (inl l) = rw (lt-leb width i l, lt-ltb i width l) (and-true b)
    below b i (inr l) = rw (le-leb width i l, le-ltb i width l) (and-false b)

pub ruleset shifts = (has_past, bound_past, down_past, up_past, bits_from_up, bits_from_past, low_left)
