-- Each entry keeps the promises if the rules below do.
use Rattle.std.specs.Prelude.{◌≡◌, ℕ, ◌<◌, Bool, true, false, cond, not, ◌&&◌, List, [], ◌∷◌, map, refl}
use Rattle.std.proofs.Common.{ap, ◌∙◌}
use Rattle.std.proofs.lemmas.Bool.{and_from, and_parts, both_ways, or_left, or_right}
use Rattle.assignment.specs.Knows.{has, knows}
use Rattle.assignment.specs.Lattice.{contradiction, inconsistent, known_outside, outside, Refines, same, total, within}
use Rattle.assignment.specs.Laws
use Rattle.assignment.specs.Options.{options_in}
use Rattle.assignment.specs.declared.assignment.Assignment.{Assignment}
use Rattle.entries.specs.declared.entry.Entry.{Entry}
use Rattle.entries.specs.declared.entry.Entry.TheVariants.{Carry, Product, Either, Selection, Projection, Complement, None}
use Rattle.folders.specs.Entries.{entry_reply, exclude, fits_below, project, shown_reply}
use Rattle.folders.specs.Folders.{folder}
use Rattle.ruleset.specs.Fillings.{fills}
use Rattle.ruleset.specs.Listed.{EachLawful, listed_lawful, nothing_lawful, Rule}
use Rattle.ruleset.specs.Meaning.{Lawful, lawful_rule, LawfulRule, Meaning}

-- what may be made the contradiction stays above what it was
or_contradiction_above : (p : Bool) (x : Assignment) → Refines (cond p contradiction x) x
or_contradiction_above true x = Laws.contradiction_top x
or_contradiction_above false x = Laws.refines_refl x

-- two ways to a contradiction, of which the one goes with the other
or_contradiction_mono : (p q : Bool) (x y : Assignment) → (q ≡ true → p ≡ true) → (p ≡ false → Refines x y) → Refines (cond p contradiction x) (cond q contradiction y)
or_contradiction_mono true q x y up below = Laws.contradiction_top (cond q contradiction y)
or_contradiction_mono false true x y up below = absurd (both_ways false refl (up refl))
or_contradiction_mono false false x y up below = below refl

pub shown_lawful : (hidden : ℕ) (f : Rule) → LawfulRule f → LawfulRule (shown_reply hidden f)
shown_lawful hidden f l =
    record {
      extensive = λ a. Laws.refines_by (shown_reply hidden f a) a (λ o h v k. go a o h v k (has hidden o) refl);
      monotone = λ u. Laws.join_mono (Laws.outside_mono hidden (l.monotone (Laws.outside_mono hidden u))) (Laws.within_mono hidden u);
    }
  where
    go : (a : Assignment) (o : ℕ) → o < 64 → (v : Bool) → knows a o v ≡ true → (b : Bool) → has hidden o ≡ b → knows (shown_reply hidden f a) o v ≡ true
    go a o h v k true e =
        Laws.join_knows (outside hidden (f (outside hidden a))) (within hidden a) o v
        ∙ or_right _ (knows (within hidden a) o v) (Laws.within_hidden hidden a o v e ∙ k)
    go a o h v k false e =
        Laws.join_knows (outside hidden (f (outside hidden a))) (within hidden a) o v
        ∙ or_left (knows (outside hidden (f (outside hidden a))) o v) _
        (Laws.outside_shown hidden (f (outside hidden a)) o v e
        ∙ Laws.knows_up (l.extensive (outside hidden a)) o v (Laws.outside_shown hidden a o v e ∙ k))

project_lawful : (hidden : ℕ) (f : Rule) → LawfulRule f → LawfulRule (project hidden f)
project_lawful hidden f l =
    record {
      extensive = λ a. Laws.refines_trans (or_contradiction_above (inconsistent a) _) (Laws.refines_trans (or_contradiction_above (fails a) _) ((shown_lawful hidden f l).extensive a));
      monotone =
          λ {b} {a} u.
          or_contradiction_mono (inconsistent b) (inconsistent a) _ _ (Laws.inconsistent_up u)
          (λ c. or_contradiction_mono (fails b) (fails a) _ _ (fails_up u c) (λ _. (shown_lawful hidden f l).monotone u));
    }
  where
    fails : Assignment → Bool
    fails a = known_outside hidden a && not (fits_below hidden f a)

    fails_up : {b a : Assignment} → Refines b a → inconsistent b ≡ false → fails a ≡ true → fails b ≡ true
    fails_up {b} {a} u c e =
        let parts = and_parts (known_outside hidden a) (not (fits_below hidden f a)) e in
        let shown = Laws.known_outside_at hidden a parts.0 in
        and_from (known_outside hidden b) (not (fits_below hidden f b))
        (Laws.known_outside_by hidden b (λ o h n. Laws.known_up u o (shown o h n)))
        (ap (λ x. not (fills f (options_in hidden) x)) (Laws.outside_same hidden u c shown) ∙ parts.1)

exclude_lawful : (f : Rule) → LawfulRule (exclude f)
exclude_lawful f =
    record {
      extensive = λ a. Laws.refines_trans (or_contradiction_above (inconsistent a) _) (or_contradiction_above (excluded a) a);
      monotone =
          λ {b} {a} u.
          or_contradiction_mono (inconsistent b) (inconsistent a) _ _ (Laws.inconsistent_up u)
          (λ c. or_contradiction_mono (excluded b) (excluded a) b a (excluded_up u c) (λ _. u));
    }
  where
    excluded : Assignment → Bool
    excluded a = total a && same (f a) a

    excluded_up : {b a : Assignment} → Refines b a → inconsistent b ≡ false → excluded a ≡ true → excluded b ≡ true
    excluded_up {b} {a} u c e =
        ap excluded (Laws.total_above (and_parts (total a) (same (f a) a) e).0 u c) ∙ e

pub entry_lawful : (e : Entry) (below : ℕ → Rule) → ((k : ℕ) → LawfulRule (below k)) → LawfulRule (entry_reply e below)
entry_lawful (Carry r) below l = l r
entry_lawful (Product r s) below l =
    record {
      extensive = λ a. Laws.refines_trans (Laws.join_left (below r a) (below s a)) ((l r).extensive a);
      monotone = λ u. Laws.join_mono ((l r).monotone u) ((l s).monotone u);
    }
entry_lawful (Either r s) below l =
    record {
      extensive =
          λ a.
          Laws.meet_greatest (Laws.refines_trans (Laws.whole_above (below r a)) ((l r).extensive a))
          (Laws.refines_trans (Laws.whole_above (below s a)) ((l s).extensive a));
      monotone = λ u. Laws.meet_mono (Laws.whole_mono ((l r).monotone u)) (Laws.whole_mono ((l s).monotone u));
    }
entry_lawful (Selection r left right width) below l =
    record {
      extensive = λ a. Laws.refines_trans (Laws.equate_above left right width (below r a)) ((l r).extensive a);
      monotone = λ u. Laws.equate_mono left right width ((l r).monotone u);
    }
entry_lawful (Projection r hidden) below l = project_lawful hidden (below r) (l r)
entry_lawful (Complement r) below l = exclude_lawful (below r)
entry_lawful None below l = nothing_lawful

pub folder_lawful : (es : List Entry) (m : Meaning) → Lawful m → Lawful (folder es m)
folder_lawful es m l = listed_lawful (map (λ e. entry_reply e m.reply) es) (each es)
  where
    each : (xs : List Entry) → EachLawful (map (λ e. entry_reply e m.reply) xs)
    each [] = tt
    each (x ∷ xs) = (entry_lawful x m.reply (lawful_rule l), each xs)
