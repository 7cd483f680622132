-- The laws of closures.
use Rattle.std.proofs.Common.{◌≡◌, ℕ, zero, suc, ◌+◌, ◌<◌, ◌≤◌, Bool, true, false, cond, sym, refl, ap, ◌∙◌, subst, ◌≢◌, ◌||◌, arith}
use Rattle.std.proofs.lemmas.Bool.{both_ways, or_parts, true_from_ne_false}
use Rattle.assignment.specs.Lattice.{contradiction, inconsistent, Refines, same, whole}
use Rattle.assignment.specs.Laws.{consistent_down, contradiction_top, inconsistent_up, refines_antisym, refines_equal, refines_refl, refines_trans, same_true, top_only, true_same}
use Rattle.assignment.specs.Size.{size, size_few, size_grows}
use Rattle.assignment.specs.declared.assignment.Assignment.{Assignment}
use Rattle.ruleset.specs.Closure.{again, Asked, AskedOnce, ClosureAsked, ClosureGrows, ClosureLeast, closure, dead, fixed, Least, rounds, Stable}
use Rattle.ruleset.specs.Listed.{Rule}
use Rattle.ruleset.specs.Meaning.{LawfulRule}

-- so many rounds suffice, since each but the last adds to what is known, and a consistent reply knows at most 64 values
asked_rounds : (n : ℕ) (f : Rule) → LawfulRule f → (a : Assignment) → 64 < n + size 64 a → Asked f a (rounds n f a)
unfolding rounds
asked_rounds zero f l a h =
    dead (true_from_ne_false (inconsistent (f a)) (λ e. omega (arith, size_few 64 a (consistent_down (l.extensive a) e))))
asked_rounds (suc n) f l a h = go (inconsistent (f a)) refl (asked_rounds n f l (f a))
  where
    other : inconsistent (f a) ≡ false → (b : Bool) → same (f a) a ≡ b → (64 < n + size 64 (f a) → Asked f (f a) (rounds n f (f a))) → Asked f a (cond b a (rounds n f (f a)))
    other i true e rest = fixed i (same_true (f a) a e)
    other i false e rest =
        let new : f a ≡ a → ⊥ = λ same_reply. both_ways (same (f a) a) e (true_same (f a) a same_reply) in
        again i new (rest (omega (arith, size_grows (l.extensive a) new)))

    go : (b : Bool) → inconsistent (f a) ≡ b → (64 < n + size 64 (f a) → Asked f (f a) (rounds n f (f a))) → Asked f a (cond b contradiction (cond (same (f a) a) a (rounds n f (f a))))
    go true e rest = dead e
    go false e rest = other e (same (f a) a) refl rest

pub closure_asked : ClosureAsked
unfolding closure
closure_asked f l a = asked_rounds 65 f l a (omega arith)

pub asked_once : AskedOnce
asked_once f a c d (dead i) (dead j) = refl
asked_once f a c d (dead i) (fixed j e) = absurd (both_ways (inconsistent (f a)) j i)
asked_once f a c d (dead i) (again j e r) = absurd (both_ways (inconsistent (f a)) j i)
asked_once f a c d (fixed i e) (dead j) = absurd (both_ways (inconsistent (f a)) i j)
asked_once f a c d (fixed i e) (fixed j k) = refl
asked_once f a c d (fixed i e) (again j k r) = absurd (k e)
asked_once f a c d (again i e r) (dead j) = absurd (both_ways (inconsistent (f a)) i j)
asked_once f a c d (again i e r) (fixed j k) = absurd (e k)
asked_once f a c d (again i e r) (again j k s) = asked_once f (f a) c d r s

least_asked : (f : Rule) → LawfulRule f → (a c : Assignment) → Asked f a c → Least f a c
least_asked f l a c (dead i) =
    record {
      stable = (top_only (l.extensive contradiction), λ j. refl);
      above = contradiction_top a;
      least = λ d s r. refines_equal (s.1 (inconsistent_up (subst (λ x. Refines x (f a)) s.0 (l.monotone r)) i));
    }
least_asked f l a c (fixed i e) =
    record {
      stable = (e, λ j. absurd (both_ways (inconsistent (f a)) i (inconsistent_up (l.extensive a) j)));
      above = refines_refl a;
      least = λ d s r. r;
    }
least_asked f l a c (again i e r) =
    let rest = least_asked f l (f a) c r in
    record {
      stable = rest.stable;
      above = refines_trans rest.above (l.extensive a);
      least = λ d s q. rest.least d s (subst (λ x. Refines x (f a)) s.0 (l.monotone q));
    }

pub closure_least : ClosureLeast
closure_least f l a = least_asked f l a (closure f a) (closure_asked f l a)

-- what is stable under a rule is stable under one that replies less precisely
stable_down : (f g : Rule) → LawfulRule f → ((x : Assignment) → Refines (g x) (f x)) → (c : Assignment) → Stable g c → Stable f c
stable_down f g l less c s =
    (refines_antisym (l.extensive c) (subst (λ x. Refines x (f c)) s.0 (less c)), s.1)

pub closure_grows : ClosureGrows
closure_grows f g lf lg less b a r =
    let from = closure_least g lg b in
    (closure_least f lf a).least (closure g b) (stable_down f g lf less (closure g b) from.stable) (refines_trans from.above r)

-- what a closure is, for whatever is equal to it
pub record Closed (f : Rule) (a c : Assignment) : Type 0 where
  pub answer : c ≡ closure f a
  pub least : Least f a c
  pub asked : Asked f a c

pub closed : (f : Rule) → LawfulRule f → (a c : Assignment) → c ≡ closure f a → Closed f a c
closed f l a c e =
    record {
      answer = e;
      least = subst (Least f a) (sym e) (closure_least f l a);
      asked = subst (Asked f a) (sym e) (closure_asked f l a);
    }

-- one round, with the reply r: the last, or one after which the rule is asked again

pub closure_last : (f : Rule) → LawfulRule f → (a r : Assignment) → r ≡ f a → true ≡ (inconsistent r || same r a) → whole r ≡ closure f a
closure_last f l a r reply e = go (inconsistent r) refl
  where
    go : (b : Bool) → inconsistent r ≡ b → cond b contradiction r ≡ closure f a
    go true i = asked_once f a contradiction (closure f a) (dead (ap inconsistent (sym reply) ∙ i)) (closure_asked f l a)
    go false i =
        let settled : r ≡ a = same_true r a (sym (e ∙ ap (λ b. b || same r a) i)) in
        settled
        ∙ asked_once f a a (closure f a) (fixed (ap inconsistent (sym reply) ∙ i) (sym reply ∙ settled)) (closure_asked f l a)

-- the reply has the same closure as the question, and knows more, though not too much
pub record More (f : Rule) (a r : Assignment) : Type 0 where
  pub closed : closure f r ≡ closure f a
  pub larger : size 64 a < size 64 r
  pub few : size 64 r ≤ 64

pub closure_more : (f : Rule) → LawfulRule f → (a r : Assignment) → r ≡ f a → false ≡ (inconsistent r || same r a) → More f a r
closure_more f l a r reply e =
    let parts = or_parts (inconsistent r) (same r a) (sym e) in
    let new : r ≢ a = λ s. both_ways (same r a) parts.1 (true_same r a s) in
    let next : Asked f (f a) (closure f r) = subst (λ x. Asked f x (closure f r)) reply (closure_asked f l r) in
    record {
      closed = asked_once f a (closure f r) (closure f a) (again (ap inconsistent (sym reply) ∙ parts.0) (λ s. new (reply ∙ s)) next) (closure_asked f l a);
      larger = size_grows (subst (λ x. Refines x a) (sym reply) (l.extensive a)) new;
      few = size_few 64 r parts.0;
    }
