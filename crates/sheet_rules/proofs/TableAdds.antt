-- What a table allows and what it adds.
use Rattle.std.proofs.Common.{◌≡◌, ℕ, ◌<◌, Bool, true, false, not, ◌⊎◌, List, [], ◌∷◌, get_or, sym, refl, ap, ◌∙◌, subst, inl, inr}
use mathlib.Core.Bool.{not-not}
use mathlib.Core.List.Memᴰ
use mathlib.Core.List.{Memᴰ}
use Rattle.std.proofs.lemmas.Bool.{both_ways, cond-false}
use Rattle.assignment.specs.Knows.{knows}
use Rattle.assignment.specs.Lattice.{contradiction, inconsistent}
use Rattle.assignment.specs.Laws.{contradiction_inconsistent, refines_antisym, refines_by, total_consistent, total_other}
use Rattle.assignment.specs.declared.assignment.Assignment.{Assignment}
use Rattle.ruleformat.specs.Contents.{Table}
use Rattle.sheet_rules.specs.Agreement.{agreeing, agreeing_from, agreeing_rows, agrees_at}
use Rattle.sheet_rules.specs.Laws.{TableAdds, TableAllows, TableKeepsAllowed, TableForces}
use Rattle.sheet_rules.specs.Shared.{add_shared, add_shared_adds, add_shared_keeps, add_shared_knows, Shared}
use Rattle.sheet_rules.specs.TableReply.{reply_by, table_lawful, table_reply}

module _ (t : Table) (a : Assignment) (c : inconsistent a ≡ false) where
  pub consistent_reply : table_reply t a ≡ reply_by t.columns (agreeing t.columns t.rows a) a
  unfolding table_reply
  consistent_reply = cond-false (inconsistent a) contradiction (reply_by t.columns (agreeing t.columns t.rows a) a) c

  -- where some row agrees
  shared_reply : TableAllows t a → table_reply t a ≡ add_shared t.columns (agreeing t.columns t.rows a) a
  shared_reply s =
      consistent_reply
      ∙ go (agreeing t.columns t.rows a) (agreeing_from t.columns t.rows a s.1 s.2)
    where
      go : (rows : List ℕ) → Memᴰ s.0 rows → reply_by t.columns rows a ≡ add_shared t.columns rows a
      go [] m = absurd (Memᴰ.not-nil m)
      go (row ∷ rows) m = refl

pub table_adds : TableAdds
table_adds t a c s o v h =
    (λ k. told (add_shared_knows cs rows a o v h (ap (λ r. knows r o v) (sym reply) ∙ k)), λ f. ap (λ r. knows r o v) reply ∙ added f)
  where
    cs : List ℕ
    cs = t.columns

    rows : List ℕ
    rows = agreeing cs t.rows a

    reply : table_reply t a ≡ add_shared cs rows a
    reply = shared_reply t a c s

    told : (knows a o v ≡ true) ⊎ Shared cs rows o v → (knows a o v ≡ true) ⊎ TableForces t a o v
    told (inl k) = inl k
    told (inr f) = inr (f.0, f.1, f.2, λ row m e. f.3 row (agreeing_from cs t.rows a m e))

    added : (knows a o v ≡ true) ⊎ TableForces t a o v → knows (add_shared cs rows a) o v ≡ true
    added (inl k) = add_shared_keeps cs rows a o v h k
    added (inr f) =
        add_shared_adds cs rows a o v h
        (f.0, f.1, f.2, λ row m. let p = agreeing_rows cs t.rows a m in f.3 row p.0 p.1)

pub table_allows : TableKeepsAllowed
table_allows t b total = (λ e. some (agreeing t.columns t.rows b) refl e, same)
  where
    c : inconsistent b ≡ false
    c = total_consistent b total

    some : (rows : List ℕ) → agreeing t.columns t.rows b ≡ rows → table_reply t b ≡ b → TableAllows t b
    some [] f e =
        absurd (both_ways (inconsistent b) c
        (ap inconsistent (sym e ∙ consistent_reply t b c ∙ ap (λ rows. reply_by t.columns rows b) f)
        ∙ contradiction_inconsistent))
    some (row ∷ rows) f e =
        let p = agreeing_rows t.columns t.rows b (subst (Memᴰ row) (sym f) (Memᴰ.head refl)) in
        (row, p.0, p.1)

    -- what the agreeing row says, the build has
    had : (s : TableAllows t b) (o : ℕ) (v : Bool) → o < 64 → (knows b o v ≡ true) ⊎ TableForces t b o v → knows b o v ≡ true
    had s o v h (inl k) = k
    had s o v h (inr f) =
        let otherwise = agrees_at t.columns s.0 b s.2 f.0 f.1 in
        let lacks : knows b o (not v) ≡ false =
        ap (λ x. knows b x (not v)) (sym f.2)
        ∙ ap (λ x. knows b (get_or t.columns f.0 0) (not x)) (sym (f.3 s.0 s.1 s.2)) ∙ otherwise in
        ap (knows b o) (sym (not-not v)) ∙ total_other b total o h (not v) lacks

    same : TableAllows t b → table_reply t b ≡ b
    same s =
        refines_antisym ((table_lawful t).extensive b)
        (refines_by b (table_reply t b) (λ o h v k. had s o v h ((table_adds t b c s o v h).0 k)))
