-- What clauses allow and what they add.
use Rattle.std.proofs.Common.{◌≡◌, ℕ, ◌<◌, Bool, true, false, not, ◌&&◌, eqb, ◌⊎◌, List, [], ◌∷◌, sym, refl, ap, ◌∙◌, subst, inl, inr}
use mathlib.Core.Bool.{beq, not-not}
use mathlib.Core.List.Memᴰ
use mathlib.Core.List.{Memᴰ}
use Rattle.std.proofs.lemmas.Bool.{and_parts, both_ways, cond-false, eqb-true, or_cases}
use Rattle.assignment.specs.Knows.{knows}
use Rattle.assignment.specs.Lattice.{contradiction, inconsistent, join, Refines, unknown}
use Rattle.assignment.specs.Laws.{consistent_at, contradiction_inconsistent, inconsistent_up, join_knows, knows_up, join_right, put_has, put_knows, refines_antisym, refines_by, refines_trans, total_consistent, unknown_knows}
use Rattle.assignment.specs.declared.assignment.Assignment.{Assignment}
use Rattle.ruleformat.specs.Contents.{Wanted}
use Rattle.sheet_rules.specs.ClauseReply.{add_clauses, add_clauses_above, added_by_clause, clauses_lawful, clauses_reply, forced}
use Rattle.sheet_rules.specs.Equal.{same_value}
use Rattle.sheet_rules.specs.Laws.{ClausesAdd, ClausesAllow, ClausesKeepAllowed, ClausesForce, NotLostHad}
use Rattle.sheet_rules.specs.Lost.{left, left_from, left_values, lost, not_lost_known}

-- a value that is the only one left
only : ℕ → Bool → List Wanted
only o v = record { option = o; negated = not v } ∷ []

forced_knows : {w : Wanted} (xs : List Wanted) → Memᴰ w xs → (o : ℕ) (v : Bool) → o < 64 → knows (forced xs) o v ≡ true → xs ≡ only o v
unfolding only
forced_knows [] m o v h k = absurd (Memᴰ.not-nil m)
forced_knows (x ∷ []) m o v h k =
    go (or_cases _ _ (sym (put_knows x.option (not x.negated) unknown o v h) ∙ k))
  where
    go : (knows unknown o v ≡ true) ⊎ ((eqb x.option o && beq (not x.negated) v) ≡ true) → x ∷ [] ≡ record { option = o; negated = not v } ∷ []
    go (inl e) = absurd (both_ways (knows unknown o v) (unknown_knows o v) e)
    go (inr e) =
        let at : x.option ≡ o = eqb-true x.option o (and_parts _ _ e).0 in
        let value : x.negated ≡ not v =
        sym (not-not x.negated) ∙ ap not (same_value (not x.negated) v (and_parts _ _ e).1) in
        λ i. record { option = at i; negated = value i } ∷ []
forced_knows (x ∷ y ∷ xs) m o v h k = absurd (both_ways (knows unknown o v) (unknown_knows o v) k)

forced_adds : (xs : List Wanted) (o : ℕ) (v : Bool) → o < 64 → xs ≡ only o v → knows (forced xs) o v ≡ true
unfolding only
forced_adds xs o v h e =
    ap (λ ys. knows (forced ys) o v) e ∙ ap (knows _ o) (sym (not-not v)) ∙ put_has o (not (not v)) unknown h

module _ (asked : Assignment) where
  add_clauses_at : {ws : List Wanted} (cs : List (List Wanted)) (a : Assignment) → Memᴰ ws cs → Refines (add_clauses asked cs a) (added_by_clause asked ws)
  unfolding add_clauses
  add_clauses_at [] a m = absurd (Memᴰ.not-nil m)
  add_clauses_at {ws} (x ∷ cs) a m =
      go (Memᴰ.cases_cons m) (λ l. add_clauses_at cs (join a (added_by_clause asked x)) l)
    where
      go : (ws ≡ x) ⊎ Memᴰ ws cs → (Memᴰ ws cs → Refines (add_clauses asked cs (join a (added_by_clause asked x))) (added_by_clause asked ws)) → Refines (add_clauses asked cs (join a (added_by_clause asked x))) (added_by_clause asked ws)
      go (inl p) below =
          subst (λ y. Refines (add_clauses asked cs (join a (added_by_clause asked x))) (added_by_clause asked y)) (sym p)
          (refines_trans (add_clauses_above asked cs (join a (added_by_clause asked x))) (join_right a (added_by_clause asked x)))
      go (inr l) below = below l

  add_clauses_knows : (cs : List (List Wanted)) (a : Assignment) (o : ℕ) (v : Bool) → knows (add_clauses asked cs a) o v ≡ true → (knows a o v ≡ true) ⊎ ((ws : List Wanted) × Memᴰ ws cs × (knows (added_by_clause asked ws) o v ≡ true))
  unfolding add_clauses
  add_clauses_knows [] a o v k = inl k
  add_clauses_knows (x ∷ cs) a o v k = go (add_clauses_knows cs (join a (added_by_clause asked x)) o v k)
    where
      here : (knows a o v ≡ true) ⊎ (knows (added_by_clause asked x) o v ≡ true) → (knows a o v ≡ true) ⊎ ((ws : List Wanted) × Memᴰ ws (x ∷ cs) × (knows (added_by_clause asked ws) o v ≡ true))
      here (inl e) = inl e
      here (inr e) = inr (x, Memᴰ.head refl, e)

      go : (knows (join a (added_by_clause asked x)) o v ≡ true) ⊎ ((ws : List Wanted) × Memᴰ ws cs × (knows (added_by_clause asked ws) o v ≡ true)) → (knows a o v ≡ true) ⊎ ((ws : List Wanted) × Memᴰ ws (x ∷ cs) × (knows (added_by_clause asked ws) o v ≡ true))
      go (inl e) = here (or_cases _ _ (sym (join_knows a (added_by_clause asked x) o v) ∙ e))
      go (inr s) = inr (s.0, Memᴰ.tail s.1, s.2)

pub consistent_reply : (cs : List (List Wanted)) (a : Assignment) → inconsistent a ≡ false → clauses_reply cs a ≡ add_clauses a cs a
unfolding clauses_reply
consistent_reply cs a c = cond-false (inconsistent a) contradiction (add_clauses a cs a) c

pub clauses_add : ClausesAdd
unfolding only
clauses_add cs a c allow o v h =
    (λ k. told (add_clauses_knows a cs a o v (ap (λ r. knows r o v) (sym reply) ∙ k)), λ f. ap (λ r. knows r o v) reply ∙ added f)
  where
    reply : clauses_reply cs a ≡ add_clauses a cs a
    reply = consistent_reply cs a c

    told : (knows a o v ≡ true) ⊎ ((ws : List Wanted) × Memᴰ ws cs × (knows (added_by_clause a ws) o v ≡ true)) → (knows a o v ≡ true) ⊎ ClausesForce cs a o v
    told (inl k) = inl k
    told (inr s) =
        let w = allow s.0 s.1 in
        inr (s.0, s.1, forced_knows (left a s.0) (left_from a s.0 w.1 w.2) o v h s.2)

    added : (knows a o v ≡ true) ⊎ ClausesForce cs a o v → knows (add_clauses a cs a) o v ≡ true
    added (inl k) = knows_up (add_clauses_above a cs a) o v k
    added (inr f) = knows_up (add_clauses_at a cs a f.1) o v (forced_adds (left a f.0) o v h f.2)

pub clauses_allow : ClausesKeepAllowed
clauses_allow cs b total = (λ e ws m. some ws m e (left b ws) refl, same)
  where
    c : inconsistent b ≡ false
    c = total_consistent b total

    some : (ws : List Wanted) → Memᴰ ws cs → clauses_reply cs b ≡ b → (rest : List Wanted) → left b ws ≡ rest → (w : Wanted) × Memᴰ w ws × (lost b w ≡ false)
    some ws m e [] f =
        let above : Refines b contradiction =
        subst (λ x. Refines x contradiction) (sym (consistent_reply cs b c) ∙ e)
        (subst (λ xs. Refines (add_clauses b cs b) (forced xs)) f (add_clauses_at b cs b m)) in
        absurd (both_ways (inconsistent b) c (inconsistent_up above contradiction_inconsistent))
    some ws m e (w ∷ rest) f =
        let p = left_values b ws (subst (Memᴰ w) (sym f) (Memᴰ.head refl)) in
        (w, p.0, p.1)

    had : (o : ℕ) (v : Bool) → o < 64 → (knows b o v ≡ true) ⊎ ClausesForce cs b o v → knows b o v ≡ true
    had o v h (inl k) = k
    had o v h (inr f) =
        let w : Wanted = record { option = o; negated = not v } in
        let p = left_values {w = w} b f.0 (subst (Memᴰ w) (sym f.2) (Memᴰ.head refl)) in
        ap (knows b o) (sym (not-not v)) ∙ not_lost_known b w total h p.1

    same : ClausesAllow cs b → clauses_reply cs b ≡ b
    same allow =
        refines_antisym ((clauses_lawful cs).extensive b)
        (refines_by b (clauses_reply cs b) (λ o h v k. had o v h ((clauses_add cs b c allow o v h).0 k)))

pub not_lost_had : NotLostHad
not_lost_had b w total h =
    (not_lost_known b w total h, λ k. ap (knows b w.option) (sym (not-not w.negated)) ∙ consistent_at b w.option (not w.negated) (total_consistent b total) k)
