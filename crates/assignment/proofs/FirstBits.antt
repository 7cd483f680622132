-- That a mask is at least a power of two says that some bit from there on is set; that two masks have bits in common,
-- that some option is known both yes and no.
use Rattle.std.proofs.Common.{◌≡◌, ℕ, zero, suc, ◌+◌, ◌/◌, ◌%◌, ◌^◌, ◌<◌, ◌≤◌, Bool, true, false, nat_le, ◌⊎◌, ◌==◌, Decides, inl, inr, sym, ap, refl, ◌∙◌, arith, bit_and, not, lt_of_le_of_lt, lt_of_lt_of_le, pow-suc, pow_mono, pow_pos, subst}
use Rattle.std.proofs.Math.Nat.{div-lt_iff_lt-mul}
use Rattle.std.proofs.lemmas.Nat.{and_le_l, le-div}
use Rattle.std.proofs.lemmas.Bool.{and_parts, both_ways, cases_lt, le-leb, leb-true, not-true}
use Rattle.assignment.specs.Knows.{has, HasFrom, knows, KnownBothWays}
use Rattle.assignment.specs.Lattice.{inconsistent}
use Rattle.assignment.specs.Laws.{inconsistent_at}
use Rattle.assignment.specs.Masks.{has_and, has_beyond}
use Rattle.assignment.specs.declared.assignment.Assignment.{Assignment}

-- the greatest bit
has_top : (n m : ℕ) → 2 ^ n ≤ m → m < 2 ^ suc n → has m n ≡ true
has_top n m low high =
    let some : 1 ≤ m / 2 ^ n = le-div 1 m (2 ^ n) (pow_pos n) (omega (arith, low)) in
    let few : m / 2 ^ n < 2 = (div-lt_iff_lt-mul {k = 2 ^ n} {x = m} {y = 2} (pow_pos n)).1 (omega (arith, high, pow-suc 2 n)) in
    let alone : m / 2 ^ n ≡ 1 = omega (arith, some, few) in
    ap (λ q. q % 2 == 1) alone

-- among k bits from the first on
has_among : (k first m : ℕ) → m < 2 ^ (first + k) → 2 ^ first ≤ m → HasFrom first m
has_among zero first m high low =
    let same : first + 0 ≡ first = omega arith in
    let below : m < 2 ^ first = subst (λ n. m < 2 ^ n) same high in
    absurd (omega (arith, below, low))
has_among (suc k) first m high low = go (λ h. has_among k first m h low) (cases_lt m (2 ^ (first + k)))
  where
    next : first + suc k ≡ suc (first + k)
    next = omega arith

    go : (m < 2 ^ (first + k) → HasFrom first m) → (m < 2 ^ (first + k)) ⊎ (2 ^ (first + k) ≤ m) → HasFrom first m
    go rest (inl h) = rest h
    go rest (inr h) = (first + k, omega arith, has_top (first + k) m h (subst (λ n. m < 2 ^ n) next high))

at_least : (first m : ℕ) → HasFrom first m → 2 ^ first ≤ m
at_least first m (i, above, bit) = go (cases_lt m (2 ^ first))
  where
    go : (m < 2 ^ first) ⊎ (2 ^ first ≤ m) → 2 ^ first ≤ m
    go (inl h) = absurd (both_ways (has m i) (has_beyond first m i h above) bit)
    go (inr h) = h

from_decides : (first m : ℕ) → m < 2 ^ 64 → Decides (nat_le (2 ^ first) m) (HasFrom first m)
from_decides first m fits = (
  λ e. has_among 64 first m (lt_of_lt_of_le fits (pow_mono {i = 64} {j = first + 64} (omega arith))) (leb-true (2 ^ first) m e),
  λ some. le-leb (2 ^ first) m (at_least first m some),
)

-- the same of an answer that is equal to the test
pub from_answer : (r : Bool) (first m : ℕ) → m < 2 ^ 64 → r ≡ nat_le (2 ^ first) m → Decides r (HasFrom first m)
from_answer r first m fits e = subst (λ b. Decides b (HasFrom first m)) (sym e) (from_decides first m fits)

-- a mask that is not zero has a bit
some_bit : (m : ℕ) → m < 2 ^ 64 → (m == 0) ≡ false → (i : ℕ) × (i < 64) × (has m i ≡ true)
some_bit m fits e =
    let found = (from_decides 0 m fits).0 (le-leb (2 ^ 0) m (positive m e)) in
    (found.0, small found.0 found.2 (cases_lt found.0 64), found.2)
  where
    positive : (n : ℕ) → (n == 0) ≡ false → 2 ^ 0 ≤ n
    positive zero e = absurd (both_ways (zero == 0) e refl)
    positive (suc n) e = omega arith

    small : (i : ℕ) → has m i ≡ true → (i < 64) ⊎ (64 ≤ i) → i < 64
    small i bit (inl h) = h
    small i bit (inr h) = absurd (both_ways (has m i) (has_beyond 64 m i fits h) bit)

-- the masks have a bit in common exactly if some option is known both yes and no
pub both_ways_known : (a : Assignment) → Decides (inconsistent a) (KnownBothWays a)
unfolding inconsistent knows
both_ways_known a = (found, λ some. inconsistent_at a some.0 some.2 some.3)
  where
    found : not (bit_and a.yes a.no == 0) ≡ true → KnownBothWays a
    found e =
        let bit = some_bit (bit_and a.yes a.no) (lt_of_le_of_lt (and_le_l a.yes a.no) a.fits.0) (not-true (bit_and a.yes a.no == 0) e) in
        let both = and_parts (has a.yes bit.0) (has a.no bit.0) (sym (has_and a.yes a.no bit.0) ∙ bit.2) in
        (bit.0, bit.1, both.0, both.1)
