-- Bits of masks: what the operations on masks do bit by bit, and that a mask is its bits.
use Rattle.std.specs.Prelude.{◌≡◌, ℕ, zero, suc, ◌+◌, ◌-◌, ◌*◌, ◌/◌, ◌%◌, ◌^◌, ◌<◌, ◌≤◌, min, max, Bool, true, false, not, ◌&&◌, ◌||◌, ◌⊎◌, ◌==◌, bit_and, bit_or, bit_xor, nat_eq, nat_le, nat_lt, refl}
use Rattle.std.proofs.Common.{add_comm, lt_of_lt_of_le, mod-lt, mul_assoc, arith, inl, inr, sym, ap, ◌∙◌, pow-add, pow_mono, pow_pos, shr-shr}
use Rattle.std.proofs.Math.Nat.{div-eq_of_lt, mul-mod_left}
use Rattle.std.proofs.lemmas.Nat.{shr_split}
use Rattle.std.proofs.lemmas.Nat.Bits.{bit_at_above, bit_at_and, bit_at_cat_high, bit_at_cat_low, bit_at_ones, bit_at_or, bit_at-pow_other, bit_at-pow_same, bit_at_xor, bit_at-zero, same_from_bits_below}
use Rattle.std.specs.Int.{bit_at}
use Rattle.std.specs.Bool.{beq}
use Rattle.std.proofs.lemmas.Bool.{cases_lt, cases_order, eq-eqb, eqb-true, le-leb, le-ltb, lt-leb, lt-ltb, ne_eqb}
use Rattle.assignment.specs.Knows.{has}

-- a bit is 0 or 1
low_cases : (n : ℕ) → (n % 2 ≡ 0) ⊎ (n % 2 ≡ 1)
low_cases n = go (n % 2) (mod-lt n (omega arith))
  where
    go : (b : ℕ) → b < 2 → (b ≡ 0) ⊎ (b ≡ 1)
    go zero h = inl refl
    go (suc b) h = inr (omega arith)

-- a test on two bits that agrees with a test on bits that are 0 or 1
by_bits : (f : ℕ → ℕ → ℕ) (g : Bool → Bool → Bool) → ((f 0 0 == 1) ≡ g false false) → ((f 0 1 == 1) ≡ g false true) → ((f 1 0 == 1) ≡ g true false) → ((f 1 1 == 1) ≡ g true true) → (x y i : ℕ) → (f (x / 2 ^ i % 2) (y / 2 ^ i % 2) == 1) ≡ g (has x i) (has y i)
by_bits f g ff ft tf tt x y i = go (low_cases (x / 2 ^ i)) (low_cases (y / 2 ^ i))
  where
    go : {p q : ℕ} → (p ≡ 0) ⊎ (p ≡ 1) → (q ≡ 0) ⊎ (q ≡ 1) → (f p q == 1) ≡ g (p == 1) (q == 1)
    go (inl a) (inl b) = rw (a, b) ff
    go (inl a) (inr b) = rw (a, b) ft
    go (inr a) (inl b) = rw (a, b) tf
    go (inr a) (inr b) = rw (a, b) tt

pub has_or : (x y i : ℕ) → has (bit_or x y) i ≡ (has x i || has y i)
has_or x y i = ap (λ n. nat_eq n 1) (bit_at_or x y i) ∙ by_bits max ◌||◌ refl refl refl refl x y i

pub has_and : (x y i : ℕ) → has (bit_and x y) i ≡ (has x i && has y i)
has_and x y i = ap (λ n. nat_eq n 1) (bit_at_and x y i) ∙ by_bits min ◌&&◌ refl refl refl refl x y i

pub has_xor : (x y i : ℕ) → has (bit_xor x y) i ≡ not (beq (has x i) (has y i))
has_xor x y i =
    ap (λ n. nat_eq n 1) (bit_at_xor x y i)
    ∙ by_bits (λ p q. (p + q) % 2) (λ p q. not (beq p q)) refl refl refl refl x y i

-- the bits of x that h does not have
pub has_rest : (x h i : ℕ) → has (bit_xor x (bit_and x h)) i ≡ (has x i && not (has h i))
has_rest x h i =
    ap (λ n. nat_eq n 1) (bit_at_xor x (bit_and x h) i ∙ ap (λ n. (bit_at x i + n) % 2) (bit_at_and x h i))
    ∙ by_bits (λ p q. (p + min p q) % 2) (λ p q. p && not q) refl refl refl refl x h i

-- a multiple of a power of two has its first bit there
pub has_raised : (x k i : ℕ) → has (x * 2 ^ k) i ≡ (nat_le k i && has x (i - k))
has_raised x k i = go (cases_lt i k)
  where
    alone : bit_at (x * 2 ^ k) i ≡ bit_at (x * 2 ^ k + 0) i
    alone = ap (λ n. bit_at n i) (omega arith)

    go : (i < k) ⊎ (k ≤ i) → has (x * 2 ^ k) i ≡ (nat_le k i && has x (i - k))
    go (inl h) =
        ap (λ n. nat_eq n 1) (alone ∙ bit_at_cat_low x k 0 i h ∙ bit_at-zero i)
        ∙ sym (ap (λ b. b && has x (i - k)) (lt-leb k i h))
    go (inr h) =
        ap (λ n. nat_eq n 1) (alone ∙ bit_at_cat_high x k 0 i (pow_pos k) h)
        ∙ sym (ap (λ b. b && has x (i - k)) (le-leb k i h))

-- a remainder by a power of two has the bits below it
pub has_low : (x k i : ℕ) → has (x % 2 ^ k) i ≡ (nat_lt i k && has x i)
has_low x k i = go (cases_lt i k)
  where
    go : (i < k) ⊎ (k ≤ i) → has (x % 2 ^ k) i ≡ (nat_lt i k && has x i)
    go (inl h) =
        ap (λ n. nat_eq n 1) (sym (bit_at_cat_low (x / 2 ^ k) k (x % 2 ^ k) i h) ∙ ap (λ n. bit_at n i) (shr_split x k))
        ∙ sym (ap (λ b. b && has x i) (lt-ltb i k h))
    go (inr h) =
        ap (λ n. nat_eq n 1) (bit_at_above (x % 2 ^ k) k i (mod-lt x (pow_pos k)) h)
        ∙ sym (ap (λ b. b && has x i) (le-ltb i k h))

-- a quotient by a power of two has the bits from there on
has_down : (x k i : ℕ) → has (x / 2 ^ k) i ≡ has x (i + k)
has_down x k i = ap (λ n. nat_eq (n % 2) 1) (shr-shr x k i ∙ ap (λ n. x / 2 ^ n) (add_comm k i))

-- the mask of bit i alone has no other bit
pub has_one : (i j : ℕ) → has (2 ^ i) j ≡ (i == j)
has_one i j = go (cases_order i j)
  where
    other : (i ≡ j → ⊥) → has (2 ^ i) j ≡ (i == j)
    other apart = ap (λ n. nat_eq n 1) (bit_at-pow_other i j (λ e. apart (sym e))) ∙ sym (ne_eqb i j apart)

    go : (i ≡ j) ⊎ ((i < j) ⊎ (j < i)) → has (2 ^ i) j ≡ (i == j)
    go (inl e) = ap (λ n. has (2 ^ i) n) (sym e) ∙ ap (λ n. nat_eq n 1) (bit_at-pow_same i) ∙ sym (eq-eqb i j e)
    go (inr (inl h)) = other (λ e. omega arith)
    go (inr (inr h)) = other (λ e. omega arith)

-- no bit of zero is set
pub has_zero : (i : ℕ) → has 0 i ≡ false
has_zero i = ap (λ n. nat_eq n 1) (bit_at-zero i)

-- all of the first k bits
pub has_all : (k i : ℕ) → i < k → has (2 ^ k - 1) i ≡ true
has_all k i h = ap (λ n. nat_eq n 1) (bit_at_ones k i h)

pub has_every : (i : ℕ) → i < 64 → has (2 ^ 64 - 1) i ≡ true
has_every i h = has_all 64 i h

-- a mask of k bits has none from k on
pub has_beyond : (k m i : ℕ) → m < 2 ^ k → k ≤ i → has m i ≡ false
has_beyond k m i fits h = ap (λ n. nat_eq n 1) (bit_at_above m k i fits h)

-- masks of k bits with the same bits are equal
pub mask_ext : (k x y : ℕ) → x < 2 ^ k → y < 2 ^ k → ((i : ℕ) → i < k → has x i ≡ has y i) → x ≡ y
mask_ext k x y hx hy same =
    same_from_bits_below k x y hx hy (λ i h. bit (low_cases (x / 2 ^ i)) (low_cases (y / 2 ^ i)) (same i h))
  where
    bit : {p q : ℕ} → (p ≡ 0) ⊎ (p ≡ 1) → (q ≡ 0) ⊎ (q ≡ 1) → (p == 1) ≡ (q == 1) → p ≡ q
    bit {p} {q} (inl a) (inl b) e = a ∙ sym b
    bit {p} {q} (inl a) (inr b) e = eqb-true p 1 (e ∙ eq-eqb q 1 b) ∙ sym b
    bit {p} {q} (inr a) (inl b) e = a ∙ sym (eqb-true q 1 (sym e ∙ eq-eqb p 1 a))
    bit {p} {q} (inr a) (inr b) e = a ∙ sym b

-- nothing is left of a mask of 64 bits that is shifted by 64 places or more
pub down_past : (m k : ℕ) → m < 2 ^ 64 → 64 ≤ k → m / 2 ^ k ≡ 0
down_past m k fits h = div-eq_of_lt (lt_of_lt_of_le fits (pow_mono h))

pub up_past : (m k : ℕ) → 64 ≤ k → m * 2 ^ k % 2 ^ 64 ≡ 0
up_past m k h =
    ap (λ n. m * n % 2 ^ 64) (ap (λ n. 2 ^ n) (omega arith) ∙ pow-add 2 (k - 64) 64)
    ∙ ap (λ n. n % 2 ^ 64) (sym (mul_assoc m (2 ^ (k - 64)) (2 ^ 64))) ∙ mul-mod_left (m * 2 ^ (k - 64)) (2 ^ 64)

-- the bits of a mask from place `from` on, as many as the width says, moved to the places from `to` on
unfoldable pub moved : (from to width : ℕ) → ℕ → ℕ
moved from to width m = m / 2 ^ from % 2 ^ width * 2 ^ to % 2 ^ 64

pub has_moved : (from to width m i : ℕ) → i < 64 → has (moved from to width m) i ≡ (nat_le to i && (nat_lt (i - to) width && has m (i - to + from)))
unfolding moved
has_moved from to width m i h =
    let part = m / 2 ^ from % 2 ^ width in
    has_low (part * 2 ^ to) 64 i ∙ ap (λ b. b && has (part * 2 ^ to) i) (lt-ltb i 64 h) ∙ has_raised part to i
    ∙ ap (λ b. nat_le to i && b)
    (has_low (m / 2 ^ from) width (i - to) ∙ ap (λ b. nat_lt (i - to) width && b) (has_down m from (i - to)))
