-- What it says of an assignment that a mask made of its two masks has all bits.
use Rattle.std.proofs.Common.{◌≡◌, ℕ, ◌^◌, ◌<◌, Bool, true, false, not, ◌||◌, ◌==◌, ◌≢◌, refl, sym, ap, ◌∙◌, arith, bit_or, bit_xor}
use Rattle.std.specs.Bool.{beq}
use Rattle.std.specs.Cmp.{both_ways as same_answer}
use Rattle.std.proofs.lemmas.Nat.{or_lt, xor_lt}
use Rattle.std.proofs.lemmas.Bool.{both_ways, eq-eqb, eqb-true}
use Rattle.assignment.specs.Knows.{has, knows}
use Rattle.assignment.specs.Lattice.{all, inconsistent, known_outside, total}
use Rattle.assignment.specs.Laws.{consistent_by, inconsistent_at, known_outside_at, known_outside_by, total_by, total_consistent, total_known}
use Rattle.assignment.specs.Masks.{has_all, has_or, has_xor, mask_ext}
use Rattle.assignment.specs.declared.assignment.Assignment.{Assignment}

-- with the hidden options: what is unknown is hidden
pub all_known : (hidden : ℕ) (a : Assignment) → hidden < 2 ^ 64 → (bit_or (bit_or a.yes a.no) hidden == all) ≡ known_outside hidden a
unfolding knows
all_known hidden a fits = same_answer (bit_or (bit_or a.yes a.no) hidden == all) (known_outside hidden a) to from
  where
    shown : (p q : Bool) → (p || q) ≡ true → q ≡ false → p ≡ true
    shown true q e n = refl
    shown false q e n = sym n ∙ e

    either : (p q : Bool) → (q ≡ false → p ≡ true) → (p || q) ≡ true
    either true q f = refl
    either false true f = refl
    either false false f = f refl

    bits : (o : ℕ) → has (bit_or (bit_or a.yes a.no) hidden) o ≡ ((has a.yes o || has a.no o) || has hidden o)
    bits o = has_or (bit_or a.yes a.no) hidden o ∙ ap (λ b. b || has hidden o) (has_or a.yes a.no o)

    to : (bit_or (bit_or a.yes a.no) hidden == all) ≡ true → known_outside hidden a ≡ true
    to e =
        known_outside_by hidden a
        (λ o h n. shown (has a.yes o || has a.no o) (has hidden o) (sym (bits o) ∙ ap (λ m. has m o) (eqb-true (bit_or (bit_or a.yes a.no) hidden) all e) ∙ has_all 64 o h) n)

    from : known_outside hidden a ≡ true → (bit_or (bit_or a.yes a.no) hidden == all) ≡ true
    from k =
        eq-eqb (bit_or (bit_or a.yes a.no) hidden) all
        (mask_ext 64 (bit_or (bit_or a.yes a.no) hidden) all (or_lt 64 (bit_or a.yes a.no) hidden (or_lt 64 a.yes a.no a.fits.0 a.fits.1) fits) (omega arith)
        (λ o h. bits o ∙ either (has a.yes o || has a.no o) (has hidden o) (known_outside_at hidden a k o h) ∙ sym (has_all 64 o h)))

-- those in one mask alone: the assignment is a build
pub all_decided : (a : Assignment) → (bit_xor a.yes a.no == all) ≡ total a
unfolding knows
all_decided a = same_answer (bit_xor a.yes a.no == all) (total a) to from
  where
    some : (p q : Bool) → not (beq p q) ≡ true → (p || q) ≡ true
    some true q e = refl
    some false true e = refl
    some false false e = e

    apart : (p q : Bool) → not (beq p q) ≡ true → p ≡ true → q ≢ true
    apart true true e y n = both_ways false refl e
    apart true false e y n = both_ways false refl n
    apart false q e y n = both_ways false refl y

    one : (p q : Bool) → (p || q) ≡ true → (p ≡ true → q ≢ true) → not (beq p q) ≡ true
    one true true e f = absurd (f refl refl)
    one true false e f = refl
    one false true e f = refl
    one false false e f = e

    to : (bit_xor a.yes a.no == all) ≡ true → total a ≡ true
    to e =
        let bit : (o : ℕ) → o < 64 → not (beq (has a.yes o) (has a.no o)) ≡ true =
        λ o h. sym (has_xor a.yes a.no o) ∙ ap (λ m. has m o) (eqb-true (bit_xor a.yes a.no) all e) ∙ has_all 64 o h in
        total_by a (λ o h. some (has a.yes o) (has a.no o) (bit o h))
        (consistent_by a (λ o h. apart (has a.yes o) (has a.no o) (bit o h)))

    from : total a ≡ true → (bit_xor a.yes a.no == all) ≡ true
    from t =
        eq-eqb (bit_xor a.yes a.no) all
        (mask_ext 64 (bit_xor a.yes a.no) all (xor_lt 64 a.yes a.no a.fits.0 a.fits.1) (omega arith)
        (λ o h.
        has_xor a.yes a.no o
        ∙ one (has a.yes o) (has a.no o) (total_known a t o h)
        (λ y n. both_ways (inconsistent a) (total_consistent a t) (inconsistent_at a o y n))
        ∙ sym (has_all 64 o h)))
