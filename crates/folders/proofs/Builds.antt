-- An entry allows the builds that the table says.
use Rattle.std.proofs.Common.{◌≡◌, ℕ, ◌+◌, ◌<◌, ◌≤◌, Bool, true, false, cond, not, ◌&&◌, ◌||◌, ◌⊎◌, ◌↔◌, sym, refl, ap, ◌∙◌, subst, inl, inr}
use mathlib.Core.Bool.{not-not}
use Rattle.std.proofs.lemmas.Bool.{and_parts, both_ways, cases_lt, cond-false, cond-true, false_from_ne_true, not-true, or_cases, or_right, true_from_ne_false}
use Rattle.assignment.specs.Knows.{has, knows}
use Rattle.assignment.specs.Lattice.{contradiction, copied, equate, inconsistent, join, known_outside, meet, outside, Refines, same, Total, whole, within}
use Rattle.assignment.specs.Laws
use Rattle.assignment.specs.Options.{options_in}
use Rattle.assignment.specs.declared.assignment.Assignment.{Assignment}
use Rattle.entries.specs.declared.entry.Entry.{Entry}
use Rattle.entries.specs.declared.entry.Entry.TheVariants.{Carry, Product, Either, Selection, Projection, Complement, None}
use Rattle.folders.specs.Entries.{AgreeOutside, entry_allows, entry_reply, exclude, fits_below, PairsEqual, project, shown_reply}
use Rattle.folders.specs.Lawful.{shown_lawful}
use Rattle.folders.proofs.HiddenOptions.{hidden_below, hidden_covers}
use Rattle.ruleset.proofs.FillingLaws.{fills_builds}
use Rattle.ruleset.specs.Listed.{Rule}
use Rattle.ruleset.specs.Meaning.{extensive_keeps, LawfulRule}

-- no build is the contradiction
pub not_dead : (b : Assignment) → Total b → contradiction ≡ b → ⊥
not_dead b t e =
    both_ways (inconsistent b) (Laws.total_consistent b t) (sym (ap inconsistent e) ∙ Laws.contradiction_inconsistent)

product_builds : (x y b : Assignment) → Refines x b → Refines y b → (join x y ≡ b) ↔ ((x ≡ b) × (y ≡ b))
product_builds x y b rx ry = (
  λ e. (
    Laws.refines_antisym rx (subst (λ z. Refines z x) e (Laws.join_left x y)),
    Laws.refines_antisym ry (subst (λ z. Refines z y) e (Laws.join_right x y)),
  ),
  λ (ex, ey). ap (λ z. join z y) ex ∙ ap (join b) ey ∙ (Laws.refines_refl b).joined,
)

-- of two replies to a build, each is it or counts as the contradiction
either_builds : (x y b : Assignment) → Total b → Refines x b → Refines y b → (meet (whole x) (whole y) ≡ b) ↔ ((x ≡ b) ⊎ (y ≡ b))
either_builds x y b t rx ry = (to (extensive_keeps x b rx t) (extensive_keeps y b ry t), from)
  where
    dead : (z : Assignment) → inconsistent z ≡ true → whole z ≡ contradiction
    dead z e = cond-true (inconsistent z) contradiction z e

    alive : (z : Assignment) → z ≡ b → whole z ≡ b
    alive z e = ap whole e ∙ cond-false (inconsistent b) contradiction b (Laws.total_consistent b t)

    to : (x ≡ b) ⊎ (inconsistent x ≡ true) → (y ≡ b) ⊎ (inconsistent y ≡ true) → meet (whole x) (whole y) ≡ b → (x ≡ b) ⊎ (y ≡ b)
    to (inl ex) ky e = inl ex
    to (inr dx) (inl ey) e = inr ey
    to (inr dx) (inr dy) e =
        absurd (not_dead b t
        (sym (Laws.top_only (Laws.meet_greatest (Laws.refines_equal (dead x dx)) (Laws.refines_equal (dead y dy)))) ∙ e))

    above : (z : Assignment) → Refines z b → Refines (whole z) b
    above z r = Laws.refines_trans (Laws.whole_above z) r

    from : (x ≡ b) ⊎ (y ≡ b) → meet (whole x) (whole y) ≡ b
    from (inl ex) =
        Laws.refines_antisym (Laws.meet_greatest (above x rx) (above y ry))
        (subst (λ z. Refines z (meet (whole x) (whole y))) (alive x ex) (Laws.meet_left (whole x) (whole y)))
    from (inr ey) =
        Laws.refines_antisym (Laws.meet_greatest (above x rx) (above y ry))
        (subst (λ z. Refines z (meet (whole x) (whole y))) (alive y ey) (Laws.meet_right (whole x) (whole y)))

equal_pairs : (left right width : ℕ) (b : Assignment) → Total b → (equate left right width b ≡ b) ↔ PairsEqual left right width b
equal_pairs left right width b t = (to, from)
  where
    to : equate left right width b ≡ b → PairsEqual left right width b
    to e i h v k = go (cases_lt (right + i) 64)
      where
        go : (right + i < 64) ⊎ (64 ≤ right + i) → knows b (right + i) (not v) ≡ false
        go (inl l) =
            Laws.consistent_at b (right + i) v (Laws.total_consistent b t)
            (sym (ap (λ z. knows z (right + i) v) e) ∙ Laws.equate_knows left right width b (right + i) v l
            ∙ or_right (knows b (right + i) v) _ (or_right _ _ (Laws.copied_to left right width b i v h k)))
        go (inr l) = Laws.knows_beyond b (right + i) (not v) l

    known_by : (o : ℕ) → o < 64 → (v : Bool) → (knows b o (not v) ≡ true → ⊥) → knows b o v ≡ true
    known_by o h v no_other =
        true_from_ne_false (knows b o v) (λ e. no_other (Laws.total_other b t o h v e))

    copy : PairsEqual left right width b → (o : ℕ) → o < 64 → (v : Bool) → (copied right left width b o v ≡ true) ⊎ (copied left right width b o v ≡ true) → knows b o v ≡ true
    copy p o h v (inl k) =
        let s = Laws.copied_from right left width b o v k in
        known_by o h v
        (λ n.
        both_ways (knows b (right + s.0) v)
        (ap (knows b (right + s.0)) (sym (not-not v)) ∙ p s.0 s.1 (not v) (sym (ap (λ q. knows b q (not v)) s.2) ∙ n))
        s.3)
    copy p o h v (inr k) =
        let s = Laws.copied_from left right width b o v k in
        known_by o h v
        (λ n. both_ways (knows b o (not v)) (ap (λ q. knows b q (not v)) s.2 ∙ p s.0 s.1 v s.3) n)

    from : PairsEqual left right width b → equate left right width b ≡ b
    from p =
        Laws.refines_antisym (Laws.equate_above left right width b)
        (Laws.refines_by b (equate left right width b)
        (λ o h v k. go o h v (or_cases (knows b o v) _ (sym (Laws.equate_knows left right width b o v h) ∙ k))))
      where
        go : (o : ℕ) → o < 64 → (v : Bool) → (knows b o v ≡ true) ⊎ ((copied right left width b o v || copied left right width b o v) ≡ true) → knows b o v ≡ true
        go o h v (inl k) = k
        go o h v (inr k) = copy p o h v (or_cases _ _ k)

selection_builds : (left right width : ℕ) (x b : Assignment) → Total b → Refines x b → (equate left right width x ≡ b) ↔ ((x ≡ b) × PairsEqual left right width b)
selection_builds left right width x b t r = (to, from)
  where
    to : equate left right width x ≡ b → (x ≡ b) × PairsEqual left right width b
    to e =
        let same_build = Laws.refines_antisym r (subst (λ z. Refines z x) e (Laws.equate_above left right width x)) in
        (same_build, (equal_pairs left right width b t).0 (sym (ap (equate left right width) same_build) ∙ e))

    from : (x ≡ b) × PairsEqual left right width b → equate left right width x ≡ b
    from (e, p) = ap (equate left right width) e ∙ (equal_pairs left right width b t).1 p

agree_refines : (hidden : ℕ) (d b : Assignment) → AgreeOutside hidden d b → Refines d (outside hidden b)
agree_refines hidden d b agree =
    Laws.refines_by d (outside hidden b)
    (λ o h v k.
    let shown = false_from_ne_true (has hidden o) (λ e. both_ways (knows (outside hidden b) o v) (Laws.outside_hidden hidden b o v e) k) in
    agree o h shown v ∙ sym (Laws.outside_shown hidden b o v shown) ∙ k)

refines_agree : (hidden : ℕ) (d b : Assignment) → Total d → Total b → Refines d (outside hidden b) → AgreeOutside hidden d b
refines_agree hidden d b td tb r o h e v = go (knows b o v) refl
  where
    up : (w : Bool) → knows b o w ≡ true → knows d o w ≡ true
    up w k = Laws.knows_up r o w (Laws.outside_shown hidden b o w e ∙ k)

    go : (w : Bool) → knows b o v ≡ w → knows d o v ≡ knows b o v
    go true k = up v k ∙ sym k
    go false k =
        ap (knows d o) (sym (not-not v))
        ∙ Laws.consistent_at d o (not v) (Laws.total_consistent d td) (up (not v) (Laws.total_other b tb o h v k)) ∙ sym k

projection_builds : (hidden : ℕ) (f : Rule) → LawfulRule f → (b : Assignment) → Total b → (project hidden f b ≡ b) ↔ ((d : Assignment) × Total d × (f d ≡ d) × AgreeOutside hidden d b)
projection_builds hidden f l b t = (to (fits_below hidden f b) refl, from)
  where
    shown : known_outside hidden b ≡ true
    shown = Laws.known_outside_by hidden b (λ o h e. Laws.total_known b t o h)

    open_up : (w : Bool) → fits_below hidden f b ≡ w → project hidden f b ≡ cond (not w) contradiction (shown_reply hidden f b)
    open_up w e =
        cond-false (inconsistent b) contradiction _ (Laws.total_consistent b t)
        ∙ ap (λ p. cond (p && not (fits_below hidden f b)) contradiction (shown_reply hidden f b)) shown
        ∙ ap (λ p. cond (not p) contradiction (shown_reply hidden f b)) e

    to : (w : Bool) → fits_below hidden f b ≡ w → project hidden f b ≡ b → (d : Assignment) × Total d × (f d ≡ d) × AgreeOutside hidden d b
    to true e p =
        let (d, (td, r, k)) = (fills_builds f (options_in hidden) (outside hidden b)).0 e in
        (d, td, k, refines_agree hidden d b td t r)
    to false e p = absurd (not_dead b t (sym (open_up false e) ∙ p))

    below_build : (d : Assignment) → f d ≡ d → AgreeOutside hidden d b → Refines b (shown_reply hidden f b)
    below_build d k agree =
        Laws.join_least
        (Laws.refines_by b (outside hidden (f (outside hidden b)))
        (λ o h v e.
        let x = f (outside hidden b) in
        let parts = and_parts (knows x o v) (not (has hidden o)) (sym (Laws.outside_knows hidden x o v) ∙ e) in
        let n = not-true (has hidden o) parts.1 in
        sym (agree o h n v)
        ∙ Laws.knows_up (subst (λ z. Refines z x) k (l.monotone (agree_refines hidden d b agree))) o v parts.0))
        (Laws.refines_by b (within hidden b)
        (λ o h v e. (and_parts (knows b o v) (has hidden o) (sym (Laws.within_knows hidden b o v) ∙ e)).0))

    from : ((d : Assignment) × Total d × (f d ≡ d) × AgreeOutside hidden d b) → project hidden f b ≡ b
    from (d, td, k, agree) =
        open_up true
        ((fills_builds f (options_in hidden) (outside hidden b)).1 (hidden_below hidden)
        (hidden_covers hidden b (λ o h e. Laws.total_known b t o h)) d (td, agree_refines hidden d b agree, k))
        ∙ Laws.refines_antisym ((shown_lawful hidden f l).extensive b) (below_build d k agree)

complement_builds : (f : Rule) (b : Assignment) → Total b → (exclude f b ≡ b) ↔ (f b ≡ b → ⊥)
complement_builds f b t = (to (same (f b) b) refl, from (same (f b) b) refl)
  where
    open_up : (w : Bool) → same (f b) b ≡ w → exclude f b ≡ cond w contradiction b
    open_up w e =
        cond-false (inconsistent b) contradiction _ (Laws.total_consistent b t)
        ∙ ap (λ p. cond (p && same (f b) b) contradiction b) t ∙ ap (λ p. cond p contradiction b) e

    to : (w : Bool) → same (f b) b ≡ w → exclude f b ≡ b → f b ≡ b → ⊥
    to true e x k = not_dead b t (sym (open_up true e) ∙ x)
    to false e x k = both_ways (same (f b) b) e (Laws.true_same (f b) b k)

    from : (w : Bool) → same (f b) b ≡ w → (f b ≡ b → ⊥) → exclude f b ≡ b
    from true e x = absurd (x (Laws.same_true (f b) b e))
    from false e x = open_up false e

pub entry_builds : (e : Entry) (below : ℕ → Rule) → ((k : ℕ) → LawfulRule (below k)) → (b : Assignment) → Total b → (entry_reply e below b ≡ b) ↔ entry_allows e (λ k d. below k d ≡ d) b
entry_builds (Carry r) below l b t = (λ e. e, λ e. e)
entry_builds (Product r s) below l b t = product_builds (below r b) (below s b) b ((l r).extensive b) ((l s).extensive b)
entry_builds (Either r s) below l b t = either_builds (below r b) (below s b) b t ((l r).extensive b) ((l s).extensive b)
entry_builds (Selection r left right width) below l b t =
    selection_builds left right width (below r b) b t ((l r).extensive b)
entry_builds (Projection r hidden) below l b t = projection_builds hidden (below r) (l r) b t
entry_builds (Complement r) below l b t = complement_builds (below r) b t
entry_builds None below l b t = (not_dead b t, λ impossible. absurd impossible)
