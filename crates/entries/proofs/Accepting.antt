-- What passes the checks of a draft is what it accepts, said with no checks.
use Rattle.std.proofs.Common.{◌≡◌, ℕ, zero, suc, ◌%◌, ◌^◌, ◌<◌, ◌≤◌, false, Decides, is_ok, ◌||◌, ◌==◌, ltb, leb, refl, sym, ap, ◌∙◌, subst, Result, arith}
use lib.Count.{ones}
use Rattle.std.proofs.lemmas.Bool.{le-ltb, leb-false, lt-leb, ltb-false, or_parts}
use Rattle.std.proofs.lemmas.Bool.Decides.{nat_tests}
use Rattle.refusals.specs.Checks.{judged}
use Rattle.refusals.specs.declared.refusal.Refusal.{Refusal}
use Rattle.refusals.proofs.Passing.{Passing, ok_passes, passing_accepts}
use Rattle.entries.specs.Accepts.{Accepts, EntryFits, fields_for}
use Rattle.entries.specs.Drafts.{draft_checks}
use Rattle.entries.specs.Fields.{entry_checks, entry_of}
use Rattle.entries.specs.declared.draft.Draft.{Draft}
use Rattle.entries.specs.declared.entry.Entry.{Entry}
use Rattle.entries.specs.declared.entry.Entry.TheVariants as entry
use Rattle.entries.specs.declared.fields.EntryFields.{EntryFields}

abbrev fields : (op first second third word : ℕ) → EntryFields
fields o a b c w = record { op = o; first = a; second = b; third = c; word = w }

-- a fit entry, which has these fields
abbrev Fit : (n below : ℕ) → EntryFields → Type 0
Fit n below f = EntryFits n below (entry_of f) × (fields_for (entry_of f) ≡ f)

-- fields that are not set
clear_two : (c w : ℕ) → (ltb 0 c || ltb 0 w) ≡ false → (0 ≡ c) × (0 ≡ w)
clear_two c w h = (grind (arith, nat_tests), grind (arith, nat_tests))

clear_three : (b c w : ℕ) → (ltb 0 b || (ltb 0 c || ltb 0 w)) ≡ false → (0 ≡ b) × (0 ≡ c) × (0 ≡ w)
clear_three b c w h = (grind (arith, nat_tests), grind (arith, nat_tests), grind (arith, nat_tests))

two_known : (below a b : ℕ) → (leb below a || leb below b) ≡ false → (a < below) × (b < below)
two_known below a b h = (grind (arith, nat_tests), grind (arith, nat_tests))

fields_fitting : (n below o a b c w : ℕ) → Passing (entry_checks n below (fields o a b c w)) → Fit n below (fields o a b c w)
fields_fitting n below zero a b c w h =
    let u = clear_three b c w h.1.0 in
    (leb-false below a h.1.1.0, λ i. fields 0 a (u.0 i) (u.1 i) (u.2 i))
fields_fitting n below (suc zero) a b c w h =
    let u = clear_two c w h.1.0 in
    (two_known below a b h.1.1.0, λ i. fields 1 a b (u.0 i) (u.1 i))
fields_fitting n below (suc (suc zero)) a b c w h =
    let u = clear_two c w h.1.0 in
    (two_known below a b h.1.1.0, λ i. fields 2 a b (u.0 i) (u.1 i))
fields_fitting n below (suc (suc (suc zero))) a b c w h =
    let width = h.1.1.1.0 in
    let reach = h.1.1.1.1.0 in
    let apart = h.1.1.1.1.1.0 in
    let few : w ≤ 32 = grind (arith, nat_tests) in
    let m : w % 256 ≡ w = omega arith in
    rw m ((leb-false below a h.1.1.0, grind (arith, nat_tests), few, grind (arith, nat_tests), grind (arith, nat_tests), grind (arith, nat_tests)), refl)
fields_fitting n below (suc (suc (suc (suc zero)))) a b c w h =
    let u = clear_two b c h.1.0 in
    let inside = leb-false (2 ^ n) w h.1.1.1.1.0 in
    ((leb-false below a h.1.1.0, inside, ltb-false 16 (ones w) h.1.1.1.1.1.1.0), λ i. fields 4 a (u.0 i) (u.1 i) w)
fields_fitting n below (suc (suc (suc (suc (suc zero))))) a b c w h =
    let u = clear_three b c w h.1.0 in
    (leb-false below a h.1.1.0, λ i. fields 5 a (u.0 i) (u.1 i) (u.2 i))
fields_fitting n below (suc (suc (suc (suc (suc (suc zero)))))) a b c w h =
    let o = or_parts (ltb 0 a) (ltb 0 b || (ltb 0 c || ltb 0 w)) h.1.0 in
    let none : 0 ≡ a = grind (arith, nat_tests) in
    let u = clear_three b c w o.1 in
    (tt, λ i. fields 6 (none i) (u.0 i) (u.1 i) (u.2 i))
fields_fitting n below (suc (suc (suc (suc (suc (suc (suc o))))))) a b c w h =
    absurd (omega (arith, ltb-false 6 (suc (suc (suc (suc (suc (suc (suc o))))))) h.0))

pub fields_fit : (n below : ℕ) (f : EntryFields) → Passing (entry_checks n below f) → Fit n below f
fields_fit n below f h = fields_fitting n below f.op f.first f.second f.third f.word h

pub entry_is : (n below : ℕ) (e : Entry) → EntryFits n below e → entry_of (fields_for e) ≡ e
entry_is n below (entry.Carry r) h = refl
entry_is n below (entry.Product a b) h = refl
entry_is n below (entry.Either a b) h = refl
entry_is n below (entry.Selection r a b w) h = let e : w % 256 ≡ w = omega arith in ap (entry.Selection r a b) e
entry_is n below (entry.Projection r hidden) h = refl
entry_is n below (entry.Complement r) h = refl
entry_is n below entry.None h = refl

pub entry_passes : (n below : ℕ) (e : Entry) → EntryFits n below e → Passing (entry_checks n below (fields_for e))
entry_passes n below (entry.Carry r) h = (refl, (refl, (lt-leb below r h, (refl, (refl, (refl, (refl, tt)))))))
entry_passes n below (entry.Product a b) h = (refl, (refl, (grind (arith, nat_tests), (refl, (refl, (refl, (refl, tt)))))))
entry_passes n below (entry.Either a b) h = (refl, (refl, (grind (arith, nat_tests), (refl, (refl, (refl, (refl, tt)))))))
entry_passes n below (entry.Selection r a b w) h =
    (refl, (refl, (lt-leb below r h.0, (grind (arith, nat_tests), (grind (arith, nat_tests), (grind (arith, nat_tests), (refl, tt)))))))
entry_passes n below (entry.Projection r hidden) h =
    (refl, (refl, (lt-leb below r h.0, (refl, (lt-leb (2 ^ n) hidden h.1, (refl, (le-ltb 16 (ones hidden) h.2, tt)))))))
entry_passes n below (entry.Complement r) h = (refl, (refl, (lt-leb below r h, (refl, (refl, (refl, (refl, tt)))))))
entry_passes n below entry.None h = (refl, (refl, (refl, (refl, (refl, (refl, (refl, tt)))))))

-- the draft's own checks come before those of the entry
passes_accepts : (d : Draft) (f : EntryFields) → Passing (draft_checks d f) → Accepts d f
passes_accepts d f h =
    let e = fields_fit d.options d.below f h.1.1.1 in
    record {
      room = leb-false 32 _ h.0;
      some_option = some d.options h.1.0;
      few_options = ltb-false 64 d.options h.1.1.0;
      fitting = (entry_of f, (e.1, e.0));
    }
  where
    some : (n : ℕ) → (n == 0) ≡ false → 1 ≤ n
    some n h = grind (arith, nat_tests)

accepts_passes : (d : Draft) (f : EntryFields) → Accepts d f → Passing (draft_checks d f)
accepts_passes d f a =
    let e = a.fitting in (
      lt-leb 32 _ a.room,
      (
        some d.options a.some_option,
        (
          le-ltb 64 d.options a.few_options,
          subst (λ g. Passing (entry_checks d.options d.below g)) e.1.0 (entry_passes d.options d.below e.0 e.1.1),
        ),
      ),
    )
  where
    some : (n : ℕ) → 1 ≤ n → (n == 0) ≡ false
    some n h = grind (arith, nat_tests)

pub accepts_decided : {A : Type 0} (r : Result A Refusal) (a : A) (d : Draft) (f : EntryFields) → r ≡ judged (draft_checks d f) a → Decides (is_ok r) (Accepts d f)
accepts_decided r a d f e = (
  λ ok. passes_accepts d f (ok_passes (draft_checks d f) a (sym (ap is_ok e) ∙ ok)),
  λ accepts. ap is_ok (e ∙ passing_accepts (draft_checks d f) a (accepts_passes d f accepts)),
)
