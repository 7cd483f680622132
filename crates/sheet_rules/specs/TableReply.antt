-- What a table replies, and that it keeps a rule's promises.
use Rattle.std.specs.Prelude.{◌≡◌, ℕ, ◌<◌, Bool, true, false, cond, ◌⊎◌, List, [], ◌∷◌, refl}
use mathlib.Core.List.Memᴰ
use mathlib.Core.List.{Memᴰ}
use Rattle.std.proofs.Common.{inl, inr}
use Rattle.std.proofs.lemmas.Bool.{both_ways}
use Rattle.assignment.specs.Knows.{knows}
use Rattle.assignment.specs.Lattice.{contradiction, inconsistent, Refines}
use Rattle.assignment.specs.Laws.{contradiction_top, consistent_down, knows_up, refines_by}
use Rattle.assignment.specs.declared.assignment.Assignment.{Assignment}
use Rattle.ruleset.specs.Listed.{Rule}
use Rattle.ruleset.specs.Meaning.{LawfulRule}
use Rattle.ruleformat.specs.Contents.{Table}
use Rattle.sheet_rules.specs.Agreement.{agreeing, agreeing_from, agreeing_rows, agrees_down}
use Rattle.sheet_rules.specs.Shared.{add_shared, add_shared_adds, add_shared_keeps, add_shared_knows, Shared}

-- the reply where these rows agree
abbrev pub reply_by : List ℕ → List ℕ → Rule
reply_by cs [] a = contradiction
reply_by cs (row ∷ rows) a = add_shared cs (row ∷ rows) a

-- each column's value that all agreeing rows share is added; with no agreeing row, or an inconsistent question, the reply
-- is the contradiction
unfoldable pub table_reply : Table → Rule
table_reply t a = cond (inconsistent a) contradiction (reply_by t.columns (agreeing t.columns t.rows a) a)

reply_above : (cs rows : List ℕ) (a : Assignment) → Refines (reply_by cs rows a) a
reply_above cs [] a = contradiction_top a
reply_above cs (row ∷ rows) a =
    refines_by (add_shared cs (row ∷ rows) a) a (λ o h v k. add_shared_keeps cs (row ∷ rows) a o v h k)

-- fewer rows share more
reply_mono : {b a : Assignment} (cs fewer rows : List ℕ) → Refines b a → ((row : ℕ) → Memᴰ row fewer → Memᴰ row rows) → Refines (reply_by cs fewer b) (reply_by cs rows a)
reply_mono {b} {a} cs [] rows r sub = contradiction_top (reply_by cs rows a)
reply_mono cs (row ∷ fewer) [] r sub = absurd (Memᴰ.not-nil (sub row (Memᴰ.head refl)))
reply_mono {b} {a} cs (row ∷ fewer) (first ∷ rows) r sub =
    refines_by (add_shared cs (row ∷ fewer) b) (add_shared cs (first ∷ rows) a)
    (λ o h v k. go o h v (add_shared_knows cs (first ∷ rows) a o v h k))
  where
    go : (o : ℕ) → o < 64 → (v : Bool) → (knows a o v ≡ true) ⊎ Shared cs (first ∷ rows) o v → knows (add_shared cs (row ∷ fewer) b) o v ≡ true
    go o h v (inl k) = add_shared_keeps cs (row ∷ fewer) b o v h (knows_up r o v k)
    go o h v (inr s) = add_shared_adds cs (row ∷ fewer) b o v h (s.0, s.1, s.2, λ x m. s.3 x (sub x m))

pub table_lawful : (t : Table) → LawfulRule (table_reply t)
unfolding table_reply
table_lawful t = record { extensive = λ a. above a (inconsistent a); monotone = λ {b} {a} r. mono b a r (inconsistent b) refl (inconsistent a) refl }
  where
    rows : Assignment → List ℕ
    rows a = agreeing t.columns t.rows a

    above : (a : Assignment) (i : Bool) → Refines (cond i contradiction (reply_by t.columns (rows a) a)) a
    above a true = contradiction_top a
    above a false = reply_above t.columns (rows a) a

    mono : (b a : Assignment) → Refines b a → (p : Bool) → inconsistent b ≡ p → (q : Bool) → inconsistent a ≡ q → Refines (cond p contradiction (reply_by t.columns (rows b) b)) (cond q contradiction (reply_by t.columns (rows a) a))
    mono b a r true e q f = contradiction_top (cond q contradiction (reply_by t.columns (rows a) a))
    mono b a r false e true f = absurd (both_ways (inconsistent a) (consistent_down r e) f)
    mono b a r false e false f =
        reply_mono t.columns (rows b) (rows a) r
        (λ row m.
        let p = agreeing_rows t.columns t.rows b m in
        agreeing_from t.columns t.rows a p.0 (agrees_down t.columns row r p.1))
