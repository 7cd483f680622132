-- What a clause sheet replies, and that it keeps a rule's promises.
use Rattle.std.specs.Prelude.{◌≡◌, Bool, true, false, cond, not, List, [], ◌∷◌, refl}
use Rattle.std.proofs.lemmas.Bool.{both_ways}
use Rattle.assignment.specs.Lattice.{contradiction, inconsistent, join, put, Refines, unknown}
use Rattle.assignment.specs.Laws.{consistent_down, contradiction_top, join_left, join_mono, refines_refl, refines_trans, unknown_bottom}
use Rattle.assignment.specs.declared.assignment.Assignment.{Assignment}
use Rattle.ruleset.specs.Listed.{Rule}
use Rattle.ruleset.specs.Meaning.{LawfulRule}
use Rattle.ruleformat.specs.Contents.{Wanted}
use Rattle.sheet_rules.specs.Lost.{Fewer, kept, left, left_fewer, passed}

-- a value is added if it is the only one left; where none is left, nothing is allowed
abbrev pub forced : List Wanted → Assignment
forced [] = contradiction
forced (w ∷ []) = put w.option (not w.negated) unknown
forced (w ∷ v ∷ ws) = unknown

-- what a clause adds to an assignment
abbrev pub added_by_clause : Assignment → List Wanted → Assignment
added_by_clause a ws = forced (left a ws)

-- what all clauses add to the assignment asked, joined to the last
unfoldable pub add_clauses : Assignment → List (List Wanted) → Assignment → Assignment
add_clauses asked [] a = a
add_clauses asked (ws ∷ cs) a = add_clauses asked cs (join a (added_by_clause asked ws))

-- each clause is judged on the assignment asked; an inconsistent question gets the contradiction
unfoldable pub clauses_reply : List (List Wanted) → Rule
clauses_reply cs a = cond (inconsistent a) contradiction (add_clauses a cs a)

pub add_clauses_above : (asked : Assignment) (cs : List (List Wanted)) (a : Assignment) → Refines (add_clauses asked cs a) a
unfolding add_clauses
add_clauses_above asked [] a = refines_refl a
add_clauses_above asked (ws ∷ cs) a =
    refines_trans (add_clauses_above asked cs (join a (added_by_clause asked ws))) (join_left a (added_by_clause asked ws))

forced_mono : (xs ys : List Wanted) → Fewer xs ys → Refines (forced xs) (forced ys)
forced_mono [] ys f = contradiction_top (forced ys)
forced_mono (w ∷ []) [] f = elim f [ ]
forced_mono (w ∷ []) (v ∷ []) f = only f
  where
    only : {x y : Wanted} → Fewer (x ∷ []) (y ∷ []) → Refines (forced (x ∷ [])) (forced (y ∷ []))
    only (passed g) = elim g [ ]
    only {x} (kept g) = refines_refl (forced (x ∷ []))
forced_mono (w ∷ []) (v ∷ u ∷ ys) f = unknown_bottom (forced (w ∷ []))
forced_mono (w ∷ x ∷ xs) [] f = elim f [ ]
forced_mono (w ∷ x ∷ xs) (v ∷ []) f = absurd (never f)
  where
    none : {y : Wanted} {ys : List Wanted} → Fewer (y ∷ ys) [] → ⊥
    none g = elim g [ ]

    never : {p q r : Wanted} {ys : List Wanted} → Fewer (p ∷ q ∷ ys) (r ∷ []) → ⊥
    never (passed g) = none g
    never (kept g) = none g
forced_mono (w ∷ x ∷ xs) (v ∷ u ∷ ys) f = refines_refl unknown

add_clauses_mono : {b a : Assignment} (cs : List (List Wanted)) → Refines b a → {d c : Assignment} → Refines d c → Refines (add_clauses b cs d) (add_clauses a cs c)
unfolding add_clauses
add_clauses_mono [] r s = s
add_clauses_mono {b} {a} (ws ∷ cs) r s =
    add_clauses_mono cs r (join_mono s (forced_mono (left b ws) (left a ws) (left_fewer ws r)))

pub clauses_lawful : (cs : List (List Wanted)) → LawfulRule (clauses_reply cs)
unfolding clauses_reply
clauses_lawful cs =
    record {
      extensive = λ a. above a (inconsistent a);
      monotone = λ {b} {a} r. mono b a r (inconsistent b) refl (inconsistent a) refl;
    }
  where
    above : (a : Assignment) (i : Bool) → Refines (cond i contradiction (add_clauses a cs a)) a
    above a true = contradiction_top a
    above a false = add_clauses_above a cs a

    mono : (b a : Assignment) → Refines b a → (p : Bool) → inconsistent b ≡ p → (q : Bool) → inconsistent a ≡ q → Refines (cond p contradiction (add_clauses b cs b)) (cond q contradiction (add_clauses a cs a))
    mono b a r true e q f = contradiction_top (cond q contradiction (add_clauses a cs a))
    mono b a r false e true f = absurd (both_ways (inconsistent a) (consistent_down r e) f)
    mono b a r false e false f = add_clauses_mono cs r r
