-- A table whose columns are all different replies the contradiction or something consistent.
use Rattle.std.proofs.Common.{◌≡◌, ℕ, zero, suc, ◌+◌, ◌<◌, ◌≤◌, Bool, true, false, cond, not, ◌⊎◌, ◌≢◌, List, [], ◌∷◌, length, get_or, sym, refl, ap, ◌∙◌, subst, inl, inr, arith}
use mathlib.Core.Bool.{not-not}
use mathlib.Core.List.{Memᴰ}
use Rattle.std.proofs.lemmas.Bool.{both_ways}
use Rattle.assignment.specs.Knows.{has, knows}
use Rattle.assignment.specs.Lattice.{contradiction, inconsistent}
use Rattle.assignment.specs.Laws.{consistent_by, inconsistent_at}
use Rattle.assignment.specs.declared.assignment.Assignment.{Assignment}
use Rattle.ruleformat.specs.Contents.{Table}
use Rattle.ruleformat.specs.WellFormed.{Rising, TableFits}
use Rattle.sheet_rules.specs.Agreement.{agreeing, agreeing_rows, agrees_at}
use Rattle.sheet_rules.specs.Laws.{TableAllows, TableConsistent, TableForces}
use Rattle.sheet_rules.specs.TableReply.{reply_by, table_reply}
use Rattle.sheet_rules.proofs.TableAdds.{consistent_reply, table_adds}

rising_least : (n low : ℕ) (xs : List ℕ) → Rising n low xs → (i : ℕ) → i < length xs → low ≤ get_or xs i 0
rising_least n low [] r i h = absurd (omega arith)
rising_least n low (x ∷ xs) r zero h = r.0
rising_least n low (x ∷ xs) r (suc i) h = omega (arith, rising_least n (x + 1) xs r.2 i (omega arith), r.0)

-- of columns that rise no two are the same
rising_apart : (n low : ℕ) (xs : List ℕ) → Rising n low xs → (i j : ℕ) → i < length xs → j < length xs → get_or xs i 0 ≡ get_or xs j 0 → i ≡ j
rising_apart n low [] r i j h l e = absurd (omega arith)
rising_apart n low (x ∷ xs) r zero zero h l e = refl
rising_apart n low (x ∷ xs) r zero (suc j) h l e =
    absurd (omega (arith, e, rising_least n (x + 1) xs r.2 j (omega arith)))
rising_apart n low (x ∷ xs) r (suc i) zero h l e =
    absurd (omega (arith, e, rising_least n (x + 1) xs r.2 i (omega arith)))
rising_apart n low (x ∷ xs) r (suc i) (suc j) h l e =
    ap suc (rising_apart n (x + 1) xs r.2 i j (omega arith) (omega arith) e)

module _ (n : ℕ) (t : Table) (fits : TableFits n t) (a : Assignment) where
  -- a row that agrees is against no value that is known
  against : TableAllows t a → (o : ℕ) (v : Bool) → knows a o v ≡ true → TableForces t a o (not v) → ⊥
  against s o v k f =
      both_ways (knows a o v)
      (ap (knows a o) (sym (not-not v)) ∙ ap (λ x. knows a o (not x)) (sym (f.3 s.0 s.1 s.2))
      ∙ ap (λ x. knows a x (not (has s.0 f.0))) (sym f.2) ∙ agrees_at t.columns s.0 a s.2 f.0 f.1)
      k

  apart : TableAllows t a → inconsistent a ≡ false → (o : ℕ) → o < 64 → knows (table_reply t a) o true ≡ true → knows (table_reply t a) o false ≢ true
  apart s c o h y z = go ((table_adds t a c s o true h).0 y) ((table_adds t a c s o false h).0 z)
    where
      go : (knows a o true ≡ true) ⊎ TableForces t a o true → (knows a o false ≡ true) ⊎ TableForces t a o false → ⊥
      go (inl k) (inl l) = both_ways (inconsistent a) c (inconsistent_at a o k l)
      go (inl k) (inr g) = against s o true k g
      go (inr f) (inl l) = against s o false l f
      go (inr f) (inr g) =
          let one : f.0 ≡ g.0 = rising_apart n 0 t.columns fits.rising f.0 g.0 f.1 g.1 (f.2 ∙ sym g.2) in
          both_ways (has s.0 g.0) (g.3 s.0 s.1 s.2) (ap (has s.0) (sym one) ∙ f.3 s.0 s.1 s.2)

inconsistent_reply : (t : Table) (a : Assignment) → inconsistent a ≡ true → table_reply t a ≡ contradiction
unfolding table_reply
inconsistent_reply t a e = ap (λ b. cond b contradiction (reply_by t.columns (agreeing t.columns t.rows a) a)) e

pub table_consistent : TableConsistent
table_consistent n t fits a = go (inconsistent a) refl (agreeing t.columns t.rows a) refl
  where
    go : (b : Bool) → inconsistent a ≡ b → (rows : List ℕ) → agreeing t.columns t.rows a ≡ rows → (table_reply t a ≡ contradiction) ⊎ (inconsistent (table_reply t a) ≡ false)
    go true e rows f = inl (inconsistent_reply t a e)
    go false c [] f = inl (consistent_reply t a c ∙ ap (λ rows. reply_by t.columns rows a) f)
    go false c (row ∷ rows) f =
        let p = agreeing_rows t.columns t.rows a (subst (Memᴰ row) (sym f) (Memᴰ.head refl)) in
        inr (consistent_by (table_reply t a) (apart n t fits a (row, p.0, p.1) c))
