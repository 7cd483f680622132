-- How much an assignment knows: it grows with precision, and a consistent one knows at most one value of each option.
use Rattle.std.specs.Prelude.{◌≡◌, ℕ, zero, suc, ◌+◌, ◌<◌, ◌≤◌, Bool, true, false, cond, ◌⊎◌, ◌≢◌, refl}
use Rattle.std.proofs.Common.{arith, inl, inr, sym, ap, ◌∙◌}
use Rattle.std.proofs.lemmas.Bool.{both_ways, cases_lt}
use Rattle.assignment.specs.Knows.{knows}
use Rattle.assignment.specs.Lattice.{inconsistent, Refines}
use Rattle.assignment.specs.Laws.{by_options, inconsistent_at, knows_up}
use Rattle.assignment.specs.declared.assignment.Assignment.{Assignment}

abbrev pub bit : Bool → ℕ
bit b = cond b 1 0

-- how many values are known of the options below n
unfoldable pub size : ℕ → Assignment → ℕ
size zero a = 0
size (suc n) a = size n a + (bit (knows a n true) + bit (knows a n false))

bit_up : (p q : Bool) → (p ≡ true → q ≡ true) → bit p ≤ bit q
bit_up true q f = ap_le (f refl)
  where
    ap_le : q ≡ true → 1 ≤ bit q
    ap_le e = rw e (omega arith)
bit_up false q f = omega arith

bit_equal : (p q : Bool) → bit p ≡ bit q → p ≡ q
bit_equal true true e = refl
bit_equal true false e = absurd (omega arith)
bit_equal false true e = absurd (omega arith)
bit_equal false false e = refl

pub size_up : {b a : Assignment} (n : ℕ) → Refines b a → size n a ≤ size n b
unfolding size
size_up zero r = omega arith
size_up {b} {a} (suc n) r =
    let rest = size_up n r in
    let yes_up = bit_up (knows a n true) (knows b n true) (knows_up r n true) in
    let no_up = bit_up (knows a n false) (knows b n false) (knows_up r n false) in
    omega arith

size_equal : {b a : Assignment} (n : ℕ) → Refines b a → size n b ≤ size n a → (o : ℕ) → o < n → (v : Bool) → knows b o v ≡ knows a o v
unfolding size
size_equal zero r h o below v = absurd (omega arith)
size_equal {b} {a} (suc n) r h o below v = go (cases_lt o n) (size_equal n r rest o) v
  where
    yes_up : bit (knows a n true) ≤ bit (knows b n true)
    yes_up = bit_up (knows a n true) (knows b n true) (knows_up r n true)

    no_up : bit (knows a n false) ≤ bit (knows b n false)
    no_up = bit_up (knows a n false) (knows b n false) (knows_up r n false)

    rest : size n b ≤ size n a
    rest = omega (arith, yes_up, no_up)

    here : (w : Bool) → knows b n w ≡ knows a n w
    here true = bit_equal (knows b n true) (knows a n true) (omega (arith, yes_up, no_up, size_up n r))
    here false = bit_equal (knows b n false) (knows a n false) (omega (arith, yes_up, no_up, size_up n r))

    go : (o < n) ⊎ (n ≤ o) → (o < n → (w : Bool) → knows b o w ≡ knows a o w) → (w : Bool) → knows b o w ≡ knows a o w
    go (inl l) below_n w = below_n l w
    go (inr l) below_n w =
        let at : o ≡ n = omega arith in
        ap (λ p. knows b p w) at ∙ here w ∙ sym (ap (λ p. knows a p w) at)

-- a more precise assignment that is another one knows more
pub size_grows : {b a : Assignment} → Refines b a → (b ≢ a) → size 64 a < size 64 b
size_grows {b} {a} r other = go (cases_lt (size 64 a) (size 64 b))
  where
    go : (size 64 a < size 64 b) ⊎ (size 64 b ≤ size 64 a) → size 64 a < size 64 b
    go (inl h) = h
    go (inr h) = absurd (other (by_options b a (size_equal 64 r h)))

pub size_few : (n : ℕ) (a : Assignment) → inconsistent a ≡ false → size n a ≤ n
unfolding size
size_few zero a c = omega arith
size_few (suc n) a c =
    let rest = size_few n a c in
    let one : bit (knows a n true) + bit (knows a n false) ≤ 1 =
    apart (knows a n true) (knows a n false) (λ y m. both_ways (inconsistent a) c (inconsistent_at a n y m)) in
    omega arith
  where
    apart : (p q : Bool) → (p ≡ true → q ≢ true) → bit p + bit q ≤ 1
    apart true true f = absurd (f refl refl)
    apart true false f = omega arith
    apart false true f = omega arith
    apart false false f = omega arith
