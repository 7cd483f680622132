-- What passes the checks of an opening.
use Rattle.std.proofs.Common.{◌≡◌, ◌≢◌, ℕ, ◌<◌, ◌≤◌, ◌^◌, ◌%◌, Bool, true, false, cond, not, ◌&&◌, ◌||◌, ◌⊎◌, ◌==◌, nat_le, nat_lt, [], ◌∷◌, Result, Ok, Err, inl, inr, refl, sym, ap, ap₂, ◌∙◌, subst, arith, lt_of_le_of_lt, mod-lt, pow_pos}
use Rattle.std.proofs.lemmas.Bool.{and_parts, both_ways, cases_lt, eqb-false, le-ltb, leb-false, leb-true, lt-leb, lt-ltb, ltb-false, ne_eqb, or_cases}
use Rattle.std.proofs.Math.Bool.{and-false}
use Rattle.std.proofs.Math.Nat.{mod-le}
use Rattle.assignment.specs.Knows.{has, known, knows}
use Rattle.assignment.specs.Lattice.{inconsistent, no_from}
use Rattle.assignment.specs.Laws.{consistent_at, consistent_by, no_from_knows}
use Rattle.assignment.specs.Masks.{has_beyond, has_low, mask_ext}
use Rattle.assignment.specs.declared.assignment.Assignment.{Assignment}
use Rattle.enquiry.specs.Openings.{opening_verdict, Opens}
use Rattle.refusals.specs.Checks.{judged, when}
use Rattle.refusals.specs.declared.refusal.Refusal.{Refusal}
use Rattle.refusals.specs.declared.refusal.Refusal.TheVariants.{BeyondOptions, Conflict, NoSuchRule, OutOfRange}
use Rattle.refusals.proofs.Judged.{judged_head, judged_tail}

none_of : (p q : Bool) → (p || q) ≡ false → (p ≡ false) × (q ≡ false)
none_of false false e = (refl, refl)
none_of false true e = absurd (both_ways true e refl)
none_of true q e = absurd (both_ways true e refl)

-- a consistent start that knows nothing of the options that are not there stays so with their no
pub start_calm : (options rule count : ℕ) (start : Assignment) → Opens options start rule count → inconsistent (no_from options start) ≡ false
start_calm options rule count start opens =
    consistent_by (no_from options start)
    (λ o l y n. apart o (or_cases (knows start o true) _ (sym (no_from_knows options start o true l) ∙ y)) (or_cases (knows start o false) _ (sym (no_from_knows options start o false l) ∙ n)))
  where
    none : (o : ℕ) → knows start o true ≡ true → options ≤ o → ⊥
    none o y l = both_ways (knows start o true) (none_of (knows start o true) (knows start o false) (opens.within o l)).0 y

    apart : (o : ℕ) → (knows start o true ≡ true) ⊎ ((nat_le options o && not true) ≡ true) → (knows start o false ≡ true) ⊎ ((nat_le options o && not false) ≡ true) → ⊥
    apart o (inl y) (inl n) = both_ways (knows start o false) (consistent_at start o true opens.consistent y) n
    apart o (inl y) (inr e) = none o y (leb-true options o (and_parts (nat_le options o) true e).0)
    apart o (inr e) other = both_ways (nat_le options o && false) (and-false (nat_le options o)) e

-- a mask without a bit from n on
mask_below : (n m : ℕ) → m < 2 ^ 64 → ((o : ℕ) → n ≤ o → has m o ≡ false) → m < 2 ^ n
mask_below n m fits none =
    subst (λ x. x < 2 ^ n) (mask_ext 64 (m % 2 ^ n) m low fits (λ i h. has_low m n i ∙ bit i (cases_lt i n))) (mod-lt m (pow_pos n))
  where
    low : m % 2 ^ n < 2 ^ 64
    low = lt_of_le_of_lt (mod-le m (2 ^ n)) fits

    bit : (i : ℕ) → (i < n) ⊎ (n ≤ i) → (nat_lt i n && has m i) ≡ has m i
    bit i (inl h) = ap (λ b. b && has m i) (lt-ltb i n h)
    bit i (inr h) = ap (λ b. nat_lt i n && b) (none i h) ∙ and-false (nat_lt i n) ∙ sym (none i h)

-- masks below 2^n know nothing of options from n on
pub within_masks : (options : ℕ) (start : Assignment) → start.yes < 2 ^ options → start.no < 2 ^ options → (o : ℕ) → options ≤ o → known start o ≡ false
unfolding knows
within_masks options start y n o h = ap₂ ◌||◌ (has_beyond options start.yes o y h) (has_beyond options start.no o n h)

-- what passes the checks may be opened, and the reverse
pub passed_opens : (options : ℕ) (start : Assignment) (rule count : ℕ) → opening_verdict options start rule count ≡ Ok tt → Opens options start rule count
passed_opens options start rule count e =
    let rule_check = when (nat_le count rule) NoSuchRule ∷ [] in
    let conflict_check = when (inconsistent start) Conflict ∷ rule_check in
    let no_check = when (nat_le (2 ^ options) start.no) BeyondOptions ∷ conflict_check in
    let yes_check = when (nat_le (2 ^ options) start.yes) BeyondOptions ∷ no_check in
    let most_check = when (nat_lt 64 options) OutOfRange ∷ yes_check in
    let second : judged most_check (tt {0}) ≡ Ok tt = judged_tail (when (options == 0) OutOfRange) most_check tt tt e in
    let third : judged yes_check (tt {0}) ≡ Ok tt = judged_tail (when (nat_lt 64 options) OutOfRange) yes_check tt tt second in
    let fourth : judged no_check (tt {0}) ≡ Ok tt = judged_tail (when (nat_le (2 ^ options) start.yes) BeyondOptions) no_check tt tt third in
    let fifth : judged conflict_check (tt {0}) ≡ Ok tt = judged_tail (when (nat_le (2 ^ options) start.no) BeyondOptions) conflict_check tt tt fourth in
    let last : judged rule_check (tt {0}) ≡ Ok tt = judged_tail (when (inconsistent start) Conflict) rule_check tt tt fifth in
    let not_zero = eqb-false options 0 (judged_head (when (options == 0) OutOfRange) most_check tt tt e) in
    let yes_below = leb-false (2 ^ options) start.yes (judged_head (when (nat_le (2 ^ options) start.yes) BeyondOptions) no_check tt tt third) in
    let no_below = leb-false (2 ^ options) start.no (judged_head (when (nat_le (2 ^ options) start.no) BeyondOptions) conflict_check tt tt fourth) in
    record {
      some = omega (arith, not_zero);
      few = ltb-false 64 options (judged_head (when (nat_lt 64 options) OutOfRange) yes_check tt tt second);
      within = within_masks options start yes_below no_below;
      consistent = judged_head (when (inconsistent start) Conflict) rule_check tt tt fifth;
      there = leb-false count rule (judged_head (when (nat_le count rule) NoSuchRule) [] tt tt last);
    }

-- a check that does not hold
passed_by : (b : Bool) (x : Refusal) (rest : Result (Unit {0}) Refusal) → b ≡ false → rest ≡ Ok tt → cond b (Err x) rest ≡ Ok tt
passed_by true x rest e r = absurd (both_ways true e refl)
passed_by false x rest e r = r

pub opens_passed : (options : ℕ) (start : Assignment) (rule count : ℕ) → Opens options start rule count → opening_verdict options start rule count ≡ Ok tt
unfolding knows
opens_passed options start rule count opens =
    let some : options ≢ 0 = λ e. omega (arith, e, opens.some) in
    let none : (o : ℕ) → options ≤ o → (has start.yes o ≡ false) × (has start.no o ≡ false) = λ o h. none_of (has start.yes o) (has start.no o) (opens.within o h) in
    passed_by (options == 0) OutOfRange _ (ne_eqb options 0 some)
    (passed_by (nat_lt 64 options) OutOfRange _ (le-ltb 64 options opens.few)
    (passed_by (nat_le (2 ^ options) start.yes) BeyondOptions _ (lt-leb (2 ^ options) start.yes (mask_below options start.yes start.fits.0 (λ o h. (none o h).0)))
    (passed_by (nat_le (2 ^ options) start.no) BeyondOptions _ (lt-leb (2 ^ options) start.no (mask_below options start.no start.fits.1 (λ o h. (none o h).1)))
    (passed_by (inconsistent start) Conflict _ opens.consistent
    (passed_by (nat_le count rule) NoSuchRule (Ok tt) (lt-leb count rule opens.there) refl)))))
