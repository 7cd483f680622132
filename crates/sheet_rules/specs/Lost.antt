-- Which wanted values of a clause are lost, and what is left of the clause.
use Rattle.std.specs.Prelude.{◌≡◌, ◌<◌, Bool, true, false, cond, not, ◌⊎◌, List, [], ◌∷◌, refl}
use mathlib.Core.List.Memᴰ
use mathlib.Core.List.{Memᴰ}
use Rattle.std.proofs.Common.{inl, inr, sym, ap, ◌∙◌}
use Rattle.std.proofs.lemmas.Bool.{both_ways}
use Rattle.assignment.specs.Knows.{knows}
use Rattle.assignment.specs.Lattice.{Refines, Total}
use Rattle.assignment.specs.Laws.{knows_up, total_other}
use Rattle.assignment.specs.declared.assignment.Assignment.{Assignment}
use Rattle.ruleformat.specs.Contents.{Wanted}

-- the option is known the other way
abbrev pub lost : Assignment → Wanted → Bool
lost a w = knows a w.option w.negated

-- the values that are not lost
unfoldable pub left : Assignment → List Wanted → List Wanted
left a [] = []
left a (w ∷ ws) = cond (lost a w) (left a ws) (w ∷ left a ws)

pub left_from : {w : Wanted} (a : Assignment) (ws : List Wanted) → Memᴰ w ws → lost a w ≡ false → Memᴰ w (left a ws)
unfolding left
left_from a [] m e = absurd (Memᴰ.not-nil m)
left_from {w} a (x ∷ ws) m e = go (lost a x) refl (Memᴰ.cases_cons m) (λ l. left_from a ws l e)
  where
    go : (b : Bool) → lost a x ≡ b → (w ≡ x) ⊎ Memᴰ w ws → (Memᴰ w ws → Memᴰ w (left a ws)) → Memᴰ w (cond b (left a ws) (x ∷ left a ws))
    go true f (inl p) below = absurd (both_ways (lost a x) (ap (lost a) (sym p) ∙ e) f)
    go true f (inr l) below = below l
    go false f (inl p) below = Memᴰ.head p
    go false f (inr l) below = Memᴰ.tail (below l)

pub left_values : {w : Wanted} (a : Assignment) (ws : List Wanted) → Memᴰ w (left a ws) → Memᴰ w ws × (lost a w ≡ false)
unfolding left
left_values a [] m = absurd (Memᴰ.not-nil m)
left_values {w} a (x ∷ ws) m = go (lost a x) refl m (λ l. left_values a ws l)
  where
    onward : Memᴰ w ws × (lost a w ≡ false) → Memᴰ w (x ∷ ws) × (lost a w ≡ false)
    onward p = (Memᴰ.tail p.0, p.1)

    split : lost a x ≡ false → (w ≡ x) ⊎ Memᴰ w (left a ws) → (Memᴰ w (left a ws) → Memᴰ w ws × (lost a w ≡ false)) → Memᴰ w (x ∷ ws) × (lost a w ≡ false)
    split f (inl p) below = (Memᴰ.head p, ap (lost a) p ∙ f)
    split f (inr l) below = onward (below l)

    go : (b : Bool) → lost a x ≡ b → Memᴰ w (cond b (left a ws) (x ∷ left a ws)) → (Memᴰ w (left a ws) → Memᴰ w ws × (lost a w ≡ false)) → Memᴰ w (x ∷ ws) × (lost a w ≡ false)
    go true f l below = onward (below l)
    go false f l below = split f (Memᴰ.cases_cons l) below

-- the same values in the same order, with some left out
pub data Fewer : List Wanted → List Wanted → Type 0 where
  ended : Fewer [] []
  passed : {w : Wanted} {xs ys : List Wanted} → Fewer xs ys → Fewer xs (w ∷ ys)
  kept : {w : Wanted} {xs ys : List Wanted} → Fewer xs ys → Fewer (w ∷ xs) (w ∷ ys)

-- who knows more has fewer values left
pub left_fewer : {b a : Assignment} (ws : List Wanted) → Refines b a → Fewer (left b ws) (left a ws)
unfolding left
left_fewer [] r = ended
left_fewer {b} {a} (w ∷ ws) r = go (lost b w) refl (lost a w) refl (left_fewer ws r)
  where
    go : (p : Bool) → lost b w ≡ p → (q : Bool) → lost a w ≡ q → Fewer (left b ws) (left a ws) → Fewer (cond p (left b ws) (w ∷ left b ws)) (cond q (left a ws) (w ∷ left a ws))
    go true e true f below = below
    go true e false f below = passed below
    go false e true f below = absurd (both_ways (lost b w) e (knows_up r w.option w.negated f))
    go false e false f below = kept below

-- a build has the values that are not lost
pub not_lost_known : (b : Assignment) (w : Wanted) → Total b → w.option < 64 → lost b w ≡ false → knows b w.option (not w.negated) ≡ true
not_lost_known b w t h e = total_other b t w.option h w.negated e
