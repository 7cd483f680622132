-- The laws of assignments. What is built on assignments cites these, and looks no further down than options.
use Rattle.std.specs.Prelude.{◌≡◌, ℕ, ◌+◌, ◌-◌, ◌%◌, ◌^◌, ◌<◌, ◌≤◌, Bool, true, false, cond, not, ◌&&◌, ◌||◌, ltb, ◌⊎◌, ◌==◌, ◌≢◌, bit_and, bit_or, nat_le, nat_lt, refl}
use Rattle.std.specs.Cmp.{both_ways as same_answer}
use Rattle.std.proofs.Math.Bridge.{le_prop}
use Rattle.std.proofs.Common.{add_comm, lt_of_le_of_lt, arith, inl, inr, sym, ap, ap₂, subst, ◌∙◌}
use Rattle.std.specs.Bool.{beq}
use Rattle.std.proofs.Math.Bool.{and-true, and-false, or-false}
use mathlib.Core.HLevel.{is_prop→PathP, ×_prop}
use Rattle.std.proofs.lemmas.Nat.{and_le_l, or_lt}
use Rattle.std.proofs.lemmas.Bool.{and_from, and_parts, both_ways, cases_lt, eq-eqb, eqb-true, le-leb, le-ltb, leb-true, lt-leb, lt-ltb, ltb-true, ne_eqb, not_from_false, not_from_true, not-true, or_cases, or_left, or_right}
use Rattle.assignment.specs.Knows.{Build, has, knows, known, KnownOutside, value_from}
use Rattle.assignment.specs.Lattice.{all, bits_from, contradiction, copied, equate, inconsistent, join, known_outside, less, less_fits, meet, no_from, one, outside, put, Refines, same, shared, total, Total, unknown, whole, within}
use Rattle.assignment.specs.Masks.{has_all, has_and, has_beyond, has_low, has_moved, has_one, has_or, has_rest, has_zero, mask_ext, moved}
use Rattle.assignment.specs.declared.assignment.Assignment.{Assignment}
use Rattle.assignment.specs.declared.value.Value.{Value}
use Rattle.assignment.specs.declared.value.Value.TheVariants.{Unknown, Yes, No, Inconsistent}

-- equal masks, equal assignments
pub masks_equal : (a b : Assignment) → a.yes ≡ b.yes → a.no ≡ b.no → a ≡ b
masks_equal a b y n =
    λ i. record {
      yes = y i;
      no = n i;
      fits = is_prop→PathP (λ j. (y j < 2 ^ 64) × (n j < 2 ^ 64)) (λ j. ×_prop le_prop le_prop) a.fits b.fits i;
    }

-- assignments that know the same of every option are equal
pub by_options : (a b : Assignment) → ((o : ℕ) → o < 64 → (v : Bool) → knows a o v ≡ knows b o v) → a ≡ b
unfolding knows
by_options a b each =
    masks_equal a b (mask_ext 64 a.yes b.yes a.fits.0 b.fits.0 (λ o h. each o h true))
    (mask_ext 64 a.no b.no a.fits.1 b.fits.1 (λ o h. each o h false))

-- nothing is known of an option from 64 on
pub knows_beyond : (a : Assignment) (o : ℕ) (v : Bool) → 64 ≤ o → knows a o v ≡ false
unfolding knows
knows_beyond a o true h = has_beyond 64 a.yes o a.fits.0 h
knows_beyond a o false h = has_beyond 64 a.no o a.fits.1 h

-- what each operation knows of an option

pub join_knows : (a b : Assignment) (o : ℕ) (v : Bool) → knows (join a b) o v ≡ (knows a o v || knows b o v)
unfolding join knows
join_knows a b o true = has_or a.yes b.yes o
join_knows a b o false = has_or a.no b.no o

pub meet_knows : (a b : Assignment) (o : ℕ) (v : Bool) → knows (meet a b) o v ≡ (knows a o v && knows b o v)
unfolding meet knows
meet_knows a b o true = has_and a.yes b.yes o
meet_knows a b o false = has_and a.no b.no o

pub contradiction_knows : (o : ℕ) (v : Bool) → o < 64 → knows contradiction o v ≡ true
unfolding contradiction knows
contradiction_knows o true h = has_all 64 o h
contradiction_knows o false h = has_all 64 o h

pub unknown_knows : (o : ℕ) (v : Bool) → knows unknown o v ≡ false
unfolding unknown knows
unknown_knows o true = has_zero o
unknown_knows o false = has_zero o

pub has_one_below : (i o : ℕ) → o < 64 → has (one i) o ≡ (i == o)
has_one_below i o h = go (cases_lt i 64)
  where
    go : (i < 64) ⊎ (64 ≤ i) → has (one i) o ≡ (i == o)
    go (inl l) = ap (λ b. has (cond b (2 ^ i) 0) o) (lt-ltb i 64 l) ∙ has_one i o
    go (inr l) = ap (λ b. has (cond b (2 ^ i) 0) o) (le-ltb i 64 l) ∙ has_zero o ∙ sym (ne_eqb i o (λ e. omega arith))

pub put_knows : (i : ℕ) (v : Bool) (a : Assignment) (o : ℕ) (w : Bool) → o < 64 → knows (put i v a) o w ≡ (knows a o w || (i == o && beq v w))
unfolding put knows
put_knows i true a o true h =
    has_or a.yes (one i) o ∙ ap (λ b. has a.yes o || b) (has_one_below i o h ∙ sym (and-true (i == o)))
put_knows i true a o false h = sym (or-false (has a.no o)) ∙ ap (λ b. has a.no o || b) (sym (and-false (i == o)))
put_knows i false a o true h = sym (or-false (has a.yes o)) ∙ ap (λ b. has a.yes o || b) (sym (and-false (i == o)))
put_knows i false a o false h =
    has_or a.no (one i) o ∙ ap (λ b. has a.no o || b) (has_one_below i o h ∙ sym (and-true (i == o)))

pub outside_knows : (hidden : ℕ) (a : Assignment) (o : ℕ) (v : Bool) → knows (outside hidden a) o v ≡ (knows a o v && not (has hidden o))
unfolding outside knows
outside_knows hidden a o true = has_rest a.yes hidden o
outside_knows hidden a o false = has_rest a.no hidden o

pub within_knows : (hidden : ℕ) (a : Assignment) (o : ℕ) (v : Bool) → knows (within hidden a) o v ≡ (knows a o v && has hidden o)
unfolding within knows
within_knows hidden a o true = has_and a.yes hidden o
within_knows hidden a o false = has_and a.no hidden o

pub shared_has : (left right width m o : ℕ) → o < 64 → has (shared left right width m) o ≡ (has m o || ((nat_le left o && (nat_lt (o - left) width && has m (o - left + right))) || (nat_le right o && (nat_lt (o - right) width && has m (o - right + left)))))
shared_has left right width m o h =
    has_or m (bit_or (moved right left width m) (moved left right width m)) o
    ∙ ap (λ b. has m o || b)
    (has_or (moved right left width m) (moved left right width m) o ∙ ap₂ ◌||◌ (has_moved right left width m o h) (has_moved left right width m o h))

pub equate_knows : (left right width : ℕ) (a : Assignment) (o : ℕ) (v : Bool) → o < 64 → knows (equate left right width a) o v ≡ (knows a o v || (copied right left width a o v || copied left right width a o v))
unfolding equate knows
equate_knows left right width a o true h = shared_has left right width a.yes o h
equate_knows left right width a o false h = shared_has left right width a.no o h

pub bits_from_has : (first o : ℕ) → o < 64 → has (bits_from first) o ≡ nat_le first o
bits_from_has first o h =
    has_rest all (all % 2 ^ first) o ∙ ap₂ (λ p q. p && not q) (has_all 64 o h) (has_low all first o)
    ∙ ap (λ p. not (nat_lt o first && p)) (has_all 64 o h) ∙ ap not (and-true (nat_lt o first)) ∙ not_below o first (cases_lt o first)
  where
    not_below : (i n : ℕ) → (i < n) ⊎ (n ≤ i) → not (nat_lt i n) ≡ nat_le n i
    not_below i n (inl l) = ap not (lt-ltb i n l) ∙ sym (lt-leb n i l)
    not_below i n (inr l) = ap not (le-ltb i n l) ∙ sym (le-leb n i l)

pub no_from_knows : (first : ℕ) (a : Assignment) (o : ℕ) (v : Bool) → o < 64 → knows (no_from first a) o v ≡ (knows a o v || (nat_le first o && not v))
unfolding no_from knows
no_from_knows first a o true h = sym (or-false (has a.yes o)) ∙ ap (λ b. has a.yes o || b) (sym (and-false (nat_le first o)))
no_from_knows first a o false h =
    has_or a.no (bits_from first) o
    ∙ ap (λ b. has a.no o || b) (bits_from_has first o h ∙ sym (and-true (nat_le first o)))

-- the precision order

pub refines_by : (b a : Assignment) → ((o : ℕ) → o < 64 → (v : Bool) → knows a o v ≡ true → knows b o v ≡ true) → Refines b a
refines_by b a up =
    record {
      joined = by_options (join b a) b (λ o h v. join_knows b a o v ∙ absorbed (knows b o v) (knows a o v) (up o h v));
    }
  where
    absorbed : (p q : Bool) → (q ≡ true → p ≡ true) → (p || q) ≡ p
    absorbed true q f = refl
    absorbed false true f = sym (f refl)
    absorbed false false f = refl

pub knows_up : {b a : Assignment} → Refines b a → (o : ℕ) (v : Bool) → knows a o v ≡ true → knows b o v ≡ true
knows_up {b} {a} r o v k = sym (ap (λ c. knows c o v) r.joined) ∙ join_knows b a o v ∙ or_right (knows b o v) (knows a o v) k

pub known_up : {b a : Assignment} → Refines b a → (o : ℕ) → known a o ≡ true → known b o ≡ true
known_up {b} {a} r o k = go (or_cases (knows a o true) (knows a o false) k)
  where
    go : (knows a o true ≡ true) ⊎ (knows a o false ≡ true) → known b o ≡ true
    go (inl y) = or_left (knows b o true) (knows b o false) (knows_up r o true y)
    go (inr n) = or_right (knows b o true) (knows b o false) (knows_up r o false n)

pub refines_refl : (a : Assignment) → Refines a a
refines_refl a = refines_by a a (λ o h v k. k)

pub refines_trans : {c b a : Assignment} → Refines c b → Refines b a → Refines c a
refines_trans {c} {b} {a} r s = refines_by c a (λ o h v k. knows_up r o v (knows_up s o v k))

pub refines_antisym : {b a : Assignment} → Refines b a → Refines a b → b ≡ a
refines_antisym {b} {a} r s =
    by_options b a (λ o h v. same_answer (knows b o v) (knows a o v) (knows_up s o v) (knows_up r o v))

pub refines_equal : {b a : Assignment} → b ≡ a → Refines b a
refines_equal {b} {a} e = subst (λ c. Refines c a) (sym e) (refines_refl a)

-- join is the least above both, meet the greatest below both

pub join_left : (a b : Assignment) → Refines (join a b) a
join_left a b = refines_by (join a b) a (λ o h v k. join_knows a b o v ∙ or_left (knows a o v) (knows b o v) k)

pub join_right : (a b : Assignment) → Refines (join a b) b
join_right a b = refines_by (join a b) b (λ o h v k. join_knows a b o v ∙ or_right (knows a o v) (knows b o v) k)

pub join_least : {c a b : Assignment} → Refines c a → Refines c b → Refines c (join a b)
join_least {c} {a} {b} r s =
    refines_by c (join a b) (λ o h v k. go o v (or_cases (knows a o v) (knows b o v) (sym (join_knows a b o v) ∙ k)))
  where
    go : (o : ℕ) (v : Bool) → (knows a o v ≡ true) ⊎ (knows b o v ≡ true) → knows c o v ≡ true
    go o v (inl k) = knows_up r o v k
    go o v (inr k) = knows_up s o v k

pub join_mono : {a b c d : Assignment} → Refines c a → Refines d b → Refines (join c d) (join a b)
join_mono {a} {b} {c} {d} r s = join_least (refines_trans (join_left c d) r) (refines_trans (join_right c d) s)

pub meet_left : (a b : Assignment) → Refines a (meet a b)
meet_left a b =
    refines_by a (meet a b) (λ o h v k. (and_parts (knows a o v) (knows b o v) (sym (meet_knows a b o v) ∙ k)).0)

pub meet_right : (a b : Assignment) → Refines b (meet a b)
meet_right a b =
    refines_by b (meet a b) (λ o h v k. (and_parts (knows a o v) (knows b o v) (sym (meet_knows a b o v) ∙ k)).1)

pub meet_greatest : {c a b : Assignment} → Refines a c → Refines b c → Refines (meet a b) c
meet_greatest {c} {a} {b} r s =
    refines_by (meet a b) c
    (λ o h v k. meet_knows a b o v ∙ and_from (knows a o v) (knows b o v) (knows_up r o v k) (knows_up s o v k))

pub meet_mono : {a b c d : Assignment} → Refines c a → Refines d b → Refines (meet c d) (meet a b)
meet_mono {a} {b} {c} {d} r s = meet_greatest (refines_trans r (meet_left a b)) (refines_trans s (meet_right a b))

pub contradiction_top : (a : Assignment) → Refines contradiction a
contradiction_top a = refines_by contradiction a (λ o h v k. contradiction_knows o v h)

pub top_only : {a : Assignment} → Refines a contradiction → a ≡ contradiction
top_only {a} r = refines_antisym r (contradiction_top a)

pub unknown_bottom : (a : Assignment) → Refines a unknown
unknown_bottom a = refines_by a unknown (λ o h v k. absurd (both_ways (knows unknown o v) (unknown_knows o v) k))

-- consistency

pub inconsistent_at : (a : Assignment) (o : ℕ) → knows a o true ≡ true → knows a o false ≡ true → inconsistent a ≡ true
unfolding inconsistent knows
inconsistent_at a o y n =
    not_from_false (bit_and a.yes a.no == 0)
    (ne_eqb (bit_and a.yes a.no) 0
    (λ e.
    both_ways (has (bit_and a.yes a.no) o) (ap (λ m. has m o) e ∙ has_zero o)
    (has_and a.yes a.no o ∙ and_from (has a.yes o) (has a.no o) y n)))

pub consistent_by : (a : Assignment) → ((o : ℕ) → o < 64 → knows a o true ≡ true → knows a o false ≢ true) → inconsistent a ≡ false
unfolding inconsistent knows
consistent_by a apart =
    not_from_true (bit_and a.yes a.no == 0)
    (eq-eqb (bit_and a.yes a.no) 0
    (mask_ext 64 (bit_and a.yes a.no) 0 (lt_of_le_of_lt (and_le_l a.yes a.no) a.fits.0) (omega arith)
    (λ o h. has_and a.yes a.no o ∙ none (has a.yes o) (has a.no o) (apart o h) ∙ sym (has_zero o))))
  where
    none : (p q : Bool) → (p ≡ true → q ≢ true) → (p && q) ≡ false
    none true true f = absurd (f refl refl)
    none true false f = refl
    none false q f = refl

pub consistent_at : (a : Assignment) (o : ℕ) (v : Bool) → inconsistent a ≡ false → knows a o v ≡ true → knows a o (not v) ≡ false
consistent_at a o v c k = go (knows a o (not v)) refl
  where
    clash : (w : Bool) → knows a o w ≡ true → knows a o (not w) ≢ true
    clash true y n = both_ways (inconsistent a) c (inconsistent_at a o y n)
    clash false n y = both_ways (inconsistent a) c (inconsistent_at a o y n)

    go : (b : Bool) → knows a o (not v) ≡ b → knows a o (not v) ≡ false
    go true e = absurd (clash v k e)
    go false e = e

pub inconsistent_up : {b a : Assignment} → Refines b a → inconsistent a ≡ true → inconsistent b ≡ true
inconsistent_up {b} {a} r i = go (inconsistent b) refl
  where
    go : (c : Bool) → inconsistent b ≡ c → inconsistent b ≡ true
    go true e = e
    go false e =
        absurd (both_ways (inconsistent a)
        (consistent_by a
        (λ o h y n. both_ways (inconsistent b) e (inconsistent_at b o (knows_up r o true y) (knows_up r o false n)))) i)

pub consistent_down : {b a : Assignment} → Refines b a → inconsistent b ≡ false → inconsistent a ≡ false
consistent_down {b} {a} r c = go (inconsistent a) refl
  where
    go : (d : Bool) → inconsistent a ≡ d → inconsistent a ≡ false
    go true e = absurd (both_ways (inconsistent b) c (inconsistent_up r e))
    go false e = e

pub contradiction_inconsistent : inconsistent contradiction ≡ true
contradiction_inconsistent =
    inconsistent_at contradiction 0 (contradiction_knows 0 true (omega arith)) (contradiction_knows 0 false (omega arith))

pub whole_above : (a : Assignment) → Refines (whole a) a
whole_above a = go (inconsistent a)
  where
    go : (b : Bool) → Refines (cond b contradiction a) a
    go true = contradiction_top a
    go false = refines_refl a

pub whole_mono : {b a : Assignment} → Refines b a → Refines (whole b) (whole a)
whole_mono {b} {a} r = go (inconsistent b) refl (inconsistent a) refl
  where
    go : (p : Bool) → inconsistent b ≡ p → (q : Bool) → inconsistent a ≡ q → Refines (cond p contradiction b) (cond q contradiction a)
    go true e q f = contradiction_top (cond q contradiction a)
    go false e true f = absurd (both_ways (inconsistent b) e (inconsistent_up r f))
    go false e false f = r

-- one option more

pub put_above : (i : ℕ) (v : Bool) (a : Assignment) → Refines (put i v a) a
put_above i v a = refines_by (put i v a) a (λ o h w k. put_knows i v a o w h ∙ or_left (knows a o w) _ k)

pub put_has : (i : ℕ) (v : Bool) (a : Assignment) → i < 64 → knows (put i v a) i v ≡ true
put_has i v a h =
    put_knows i v a i v h
    ∙ or_right (knows a i v) _ (and_from (i == i) (beq v v) (eq-eqb i i refl) (itself v))
  where
    itself : (b : Bool) → beq b b ≡ true
    itself true = refl
    itself false = refl

pub put_least : {c a : Assignment} (i : ℕ) (v : Bool) → Refines c a → knows c i v ≡ true → Refines c (put i v a)
put_least {c} {a} i v r k =
    refines_by c (put i v a) (λ o h w e. go o w (or_cases (knows a o w) _ (sym (put_knows i v a o w h) ∙ e)))
  where
    value : (x y : Bool) → beq x y ≡ true → x ≡ y
    value true true e = refl
    value true false e = sym e
    value false true e = e
    value false false e = refl

    go : (o : ℕ) (w : Bool) → (knows a o w ≡ true) ⊎ ((i == o && beq v w) ≡ true) → knows c o w ≡ true
    go o w (inl e) = knows_up r o w e
    go o w (inr e) =
        let parts = and_parts (i == o) (beq v w) e in
        ap (λ p. knows c p w) (sym (eqb-true i o parts.0)) ∙ ap (knows c i) (sym (value v w parts.1)) ∙ k

-- builds

pub total_consistent : (a : Assignment) → Total a → inconsistent a ≡ false
unfolding total
total_consistent a t =
    not-true (inconsistent a) (and_parts (bit_or a.yes a.no == all) (not (inconsistent a)) t).1

pub total_known : (a : Assignment) → Total a → (o : ℕ) → o < 64 → known a o ≡ true
unfolding total knows
total_known a t o h =
    let every = (and_parts (bit_or a.yes a.no == all) (not (inconsistent a)) t).0 in
    sym (has_or a.yes a.no o) ∙ ap (λ m. has m o) (eqb-true (bit_or a.yes a.no) all every) ∙ has_all 64 o h

pub total_by : (a : Assignment) → ((o : ℕ) → o < 64 → known a o ≡ true) → inconsistent a ≡ false → Total a
unfolding total knows
total_by a each c =
    and_from (bit_or a.yes a.no == all) (not (inconsistent a))
    (eq-eqb (bit_or a.yes a.no) all
    (mask_ext 64 (bit_or a.yes a.no) all (or_lt 64 a.yes a.no a.fits.0 a.fits.1) (omega arith)
    (λ o h. has_or a.yes a.no o ∙ each o h ∙ sym (has_all 64 o h)))) (not_from_false (inconsistent a) c)

-- a build has one of the two values
pub total_other : (a : Assignment) → Total a → (o : ℕ) → o < 64 → (v : Bool) → knows a o v ≡ false → knows a o (not v) ≡ true
total_other a t o h v k = go v k (or_cases (knows a o true) (knows a o false) (total_known a t o h))
  where
    go : (w : Bool) → knows a o w ≡ false → (knows a o true ≡ true) ⊎ (knows a o false ≡ true) → knows a o (not w) ≡ true
    go true e (inl y) = absurd (both_ways (knows a o true) e y)
    go true e (inr n) = n
    go false e (inl y) = y
    go false e (inr n) = absurd (both_ways (knows a o false) e n)

-- being total is what being a build means
pub total_build : (a : Assignment) → Total a → Build a
unfolding knows
total_build a t o h =
    value (has a.yes o) (has a.no o) (total_known a t o h)
    (λ y n. both_ways (inconsistent a) (total_consistent a t) (inconsistent_at a o y n))
  where
    value : (p q : Bool) → (p || q) ≡ true → (p ≡ true → q ≢ true) → (value_from p q ≡ Yes) ⊎ (value_from p q ≡ No)
    value true true k f = absurd (f refl refl)
    value true false k f = inl refl
    value false true k f = inr refl
    value false false k f = absurd (both_ways false refl k)

pub build_total : (a : Assignment) → Build a → Total a
unfolding knows
build_total a b =
    total_by a (λ o h. some (has a.yes o) (has a.no o) (b o h))
    (consistent_by a (λ o h. apart (has a.yes o) (has a.no o) (b o h)))
  where
    number : Value → ℕ
    number Unknown = 0
    number Yes = 1
    number No = 1
    number Inconsistent = 2

    counted : (p q : Bool) → (value_from p q ≡ Yes) ⊎ (value_from p q ≡ No) → number (value_from p q) ≡ 1
    counted p q (inl e) = ap number e
    counted p q (inr e) = ap number e

    some : (p q : Bool) → (value_from p q ≡ Yes) ⊎ (value_from p q ≡ No) → (p || q) ≡ true
    some true q e = refl
    some false true e = refl
    some false false e = absurd (let z = counted false false e in omega arith)

    apart : (p q : Bool) → (value_from p q ≡ Yes) ⊎ (value_from p q ≡ No) → p ≡ true → q ≢ true
    apart true true e y n = let z = counted true true e in omega arith
    apart true false e y n = both_ways false refl n
    apart false q e y n = both_ways false refl y

-- what refines a build is it, or inconsistent
pub total_above : {b a : Assignment} → Total a → Refines b a → inconsistent b ≡ false → b ≡ a
total_above {b} {a} t r c =
    refines_antisym r (refines_by a b (λ o h v k. go o h v k (knows a o v) refl))
  where
    go : (o : ℕ) → o < 64 → (v : Bool) → knows b o v ≡ true → (w : Bool) → knows a o v ≡ w → knows a o v ≡ true
    go o h v k true e = e
    go o h v k false e =
        absurd (both_ways (knows b o (not v)) (consistent_at b o v c k) (knows_up r o (not v) (total_other a t o h v e)))

-- the test on equality

pub same_true : (a b : Assignment) → same a b ≡ true → a ≡ b
unfolding same
same_true a b e =
    let parts = and_parts (a.yes == b.yes) (a.no == b.no) e in
    masks_equal a b (eqb-true a.yes b.yes parts.0) (eqb-true a.no b.no parts.1)

pub true_same : (a b : Assignment) → a ≡ b → same a b ≡ true
unfolding same
true_same a b e =
    and_from (a.yes == b.yes) (a.no == b.no) (eq-eqb a.yes b.yes (ap (λ c. c.yes) e))
    (eq-eqb a.no b.no (ap (λ c. c.no) e))

-- hidden options

pub known_outside_at : (hidden : ℕ) (a : Assignment) → known_outside hidden a ≡ true → KnownOutside hidden a
unfolding known_outside knows
known_outside_at hidden a e o h n =
    let k = bit_or a.yes a.no in
    let bit : has (less (less all k) hidden) o ≡ false = ap (λ m. has m o) (eqb-true (less (less all k) hidden) 0 e) ∙ has_zero o in
    sym (has_or a.yes a.no o)
    ∙ left (has all o) (has k o) (has hidden o) (has_all 64 o h) n
    (sym (ap (λ b. b && not (has hidden o)) (has_rest all k o)) ∙ sym (has_rest (less all k) hidden o) ∙ bit)
  where
    left : (p q r : Bool) → p ≡ true → r ≡ false → ((p && not q) && not r) ≡ false → q ≡ true
    left p true r ep er e = refl
    left p false r ep er e = sym e ∙ ap (λ x. (x && true) && not r) ep ∙ ap not er

pub known_outside_by : (hidden : ℕ) (a : Assignment) → KnownOutside hidden a → known_outside hidden a ≡ true
unfolding known_outside knows
known_outside_by hidden a each =
    let k = bit_or a.yes a.no in
    eq-eqb (less (less all k) hidden) 0
    (mask_ext 64 (less (less all k) hidden) 0 (less_fits (less all k) hidden (less_fits all k (omega arith))) (omega arith)
    (λ o h.
    has_rest (less all k) hidden o ∙ ap (λ b. b && not (has hidden o)) (has_rest all k o)
    ∙ none (has all o) (has k o) (has hidden o) (λ e. has_or a.yes a.no o ∙ each o h e) ∙ sym (has_zero o)))
  where
    none : (p q r : Bool) → (r ≡ false → q ≡ true) → ((p && not q) && not r) ≡ false
    none p q true f = and-false (p && not q)
    none p q false f = ap (λ x. (p && not x) && true) (f refl) ∙ and-true (p && false) ∙ and-false p

pub outside_shown : (hidden : ℕ) (a : Assignment) (o : ℕ) (v : Bool) → has hidden o ≡ false → knows (outside hidden a) o v ≡ knows a o v
outside_shown hidden a o v n =
    outside_knows hidden a o v ∙ ap (λ b. knows a o v && not b) n ∙ and-true (knows a o v)

pub outside_hidden : (hidden : ℕ) (a : Assignment) (o : ℕ) (v : Bool) → has hidden o ≡ true → knows (outside hidden a) o v ≡ false
outside_hidden hidden a o v n =
    outside_knows hidden a o v ∙ ap (λ b. knows a o v && not b) n ∙ and-false (knows a o v)

pub within_hidden : (hidden : ℕ) (a : Assignment) (o : ℕ) (v : Bool) → has hidden o ≡ true → knows (within hidden a) o v ≡ knows a o v
within_hidden hidden a o v n =
    within_knows hidden a o v ∙ ap (λ b. knows a o v && b) n ∙ and-true (knows a o v)

pub outside_mono : (hidden : ℕ) {b a : Assignment} → Refines b a → Refines (outside hidden b) (outside hidden a)
outside_mono hidden {b} {a} r =
    refines_by (outside hidden b) (outside hidden a)
    (λ o h v k.
    let parts = and_parts (knows a o v) (not (has hidden o)) (sym (outside_knows hidden a o v) ∙ k) in
    outside_knows hidden b o v ∙ and_from (knows b o v) (not (has hidden o)) (knows_up r o v parts.0) parts.1)

pub within_mono : (hidden : ℕ) {b a : Assignment} → Refines b a → Refines (within hidden b) (within hidden a)
within_mono hidden {b} {a} r =
    refines_by (within hidden b) (within hidden a)
    (λ o h v k.
    let parts = and_parts (knows a o v) (has hidden o) (sym (within_knows hidden a o v) ∙ k) in
    within_knows hidden b o v ∙ and_from (knows b o v) (has hidden o) (knows_up r o v parts.0) parts.1)

-- with all shown options known, a consistent assignment that is more precise is the same at them
pub outside_same : (hidden : ℕ) {b a : Assignment} → Refines b a → inconsistent b ≡ false → KnownOutside hidden a → outside hidden b ≡ outside hidden a
outside_same hidden {b} {a} r c k =
    refines_antisym (outside_mono hidden r)
    (refines_by (outside hidden a) (outside hidden b)
    (λ o h v e.
    let parts = and_parts (knows b o v) (not (has hidden o)) (sym (outside_knows hidden b o v) ∙ e) in
    let shown = not-true (has hidden o) parts.1 in
    outside_knows hidden a o v
    ∙ and_from (knows a o v) (not (has hidden o)) (go o v parts.0 (k o h shown) (knows a o v) refl) parts.1))
  where
    other : (o : ℕ) (v : Bool) → knows a o v ≡ false → known a o ≡ true → knows a o (not v) ≡ true
    other o true e n = sym (ap (λ b. b || knows a o false) e) ∙ n
    other o false e n = sym (or-false (knows a o true)) ∙ sym (ap (λ b. knows a o true || b) e) ∙ n

    go : (o : ℕ) (v : Bool) → knows b o v ≡ true → known a o ≡ true → (w : Bool) → knows a o v ≡ w → knows a o v ≡ true
    go o v y n true e = e
    go o v y n false e =
        absurd (both_ways (knows b o (not v)) (consistent_at b o v c y) (knows_up r o (not v) (other o v e n)))

-- equal pairs

pub equate_above : (left right width : ℕ) (a : Assignment) → Refines (equate left right width a) a
equate_above left right width a =
    refines_by (equate left right width a) a (λ o h v k. equate_knows left right width a o v h ∙ or_left (knows a o v) _ k)

-- what is copied comes from an option in the other range
pub copied_from : (from to width : ℕ) (a : Assignment) (o : ℕ) (v : Bool) → copied from to width a o v ≡ true → (i : ℕ) × (i < width) × (o ≡ to + i) × (knows a (from + i) v ≡ true)
copied_from from to width a o v k =
    let outer = and_parts (nat_le to o) _ k in
    let inner = and_parts (nat_lt (o - to) width) _ outer.1 in
    let le = leb-true to o outer.0 in
    (o - to, ltb-true (o - to) width inner.0, omega arith, ap (λ p. knows a p v) (add_comm from (o - to)) ∙ inner.1)

pub copied_to : (from to width : ℕ) (a : Assignment) (i : ℕ) (v : Bool) → i < width → knows a (from + i) v ≡ true → copied from to width a (to + i) v ≡ true
copied_to from to width a i v h k =
    let back : to + i - to ≡ i = omega arith in
    and_from (nat_le to (to + i)) _ (le-leb to (to + i) (omega arith))
    (and_from (nat_lt (to + i - to) width) _ (ap (λ n. ltb n width) back ∙ lt-ltb i width h)
    (ap (λ n. knows a n v) (omega arith) ∙ k))

copied_up : (from to width : ℕ) {b a : Assignment} → Refines b a → (o : ℕ) (v : Bool) → copied from to width a o v ≡ true → copied from to width b o v ≡ true
copied_up from to width {b} {a} r o v k =
    let source = copied_from from to width a o v k in
    ap (λ p. copied from to width b p v) source.2
    ∙ copied_to from to width b source.0 v source.1 (knows_up r (from + source.0) v source.3)

pub equate_mono : (left right width : ℕ) {b a : Assignment} → Refines b a → Refines (equate left right width b) (equate left right width a)
equate_mono left right width {b} {a} r =
    refines_by (equate left right width b) (equate left right width a)
    (λ o h v k.
    equate_knows left right width b o v h
    ∙ go o v (or_cases (knows a o v) _ (sym (equate_knows left right width a o v h) ∙ k)))
  where
    copies : (o : ℕ) (v : Bool) → (copied right left width a o v ≡ true) ⊎ (copied left right width a o v ≡ true) → (copied right left width b o v || copied left right width b o v) ≡ true
    copies o v (inl k) = or_left _ _ (copied_up right left width r o v k)
    copies o v (inr k) = or_right _ _ (copied_up left right width r o v k)

    go : (o : ℕ) (v : Bool) → (knows a o v ≡ true) ⊎ ((copied right left width a o v || copied left right width a o v) ≡ true) → (knows b o v || (copied right left width b o v || copied left right width b o v)) ≡ true
    go o v (inl k) = or_left (knows b o v) _ (knows_up r o v k)
    go o v (inr k) = or_right (knows b o v) _ (copies o v (or_cases _ _ k))
