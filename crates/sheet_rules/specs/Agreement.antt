-- Which rows of a table agree with what is known.
use Rattle.std.specs.Prelude.{◌≡◌, ℕ, zero, suc, ◌/◌, ◌%◌, ◌<◌, Bool, true, false, cond, not, ◌&&◌, ◌⊎◌, List, [], ◌∷◌, length, ◌==◌, nat_eq, slice_index, refl}
use Rattle.std.proofs.Common.{div-one, one-add, arith, inl, inr, sym, ap, ◌∙◌, shr-shr}
use mathlib.Core.List.Memᴰ
use mathlib.Core.List.{Memᴰ}
use Rattle.std.proofs.lemmas.Bool.{and_from, and_parts, both_ways, not_from_false, not-true}
use Rattle.assignment.specs.Knows.{has, knows}
use Rattle.assignment.specs.Lattice.{Refines}
use Rattle.assignment.specs.Laws.{knows_up}
use Rattle.assignment.specs.declared.assignment.Assignment.{Assignment}

-- what a row says of the first column
abbrev pub odd : ℕ → Bool
odd row = row % 2 == 1

-- no column is known otherwise than the row says; half of a row is what it says of the other columns
unfoldable pub agrees : List ℕ → ℕ → Assignment → Bool
agrees [] row a = true
agrees (c ∷ cs) row a = not (knows a c (not (odd row))) && agrees cs (row / 2) a

-- those rows that agree, with the columns given first
unfoldable pub agreeing : List ℕ → List ℕ → Assignment → List ℕ
agreeing cs [] a = []
agreeing cs (row ∷ rows) a = cond (agrees cs row a) (row ∷ agreeing cs rows a) (agreeing cs rows a)

-- bit i of a row is what it says of column i

pub has_first : (row : ℕ) → has row 0 ≡ odd row
has_first row = ap (λ n. nat_eq (n % 2) 1) (div-one row)

pub has_next : (row i : ℕ) → has (row / 2) i ≡ has row (suc i)
has_next row i = ap (λ n. nat_eq (n % 2) 1) (shr-shr row 1 i) ∙ ap (has row) (one-add i)

pub agrees_at : (cs : List ℕ) (row : ℕ) (a : Assignment) → agrees cs row a ≡ true → (i : ℕ) → i < length cs → knows a (slice_index cs i) (not (has row i)) ≡ false
unfolding agrees
agrees_at [] row a e i h = absurd (omega arith)
agrees_at (c ∷ cs) row a e zero h =
    ap (λ b. knows a c (not b)) (has_first row) ∙ not-true _ (and_parts _ _ e).0
agrees_at (c ∷ cs) row a e (suc i) h =
    ap (λ b. knows a (slice_index cs i) (not b)) (sym (has_next row i))
    ∙ agrees_at cs (row / 2) a (and_parts _ _ e).1 i (omega arith)

pub agrees_by : (cs : List ℕ) (row : ℕ) (a : Assignment) → ((i : ℕ) → i < length cs → knows a (slice_index cs i) (not (has row i)) ≡ false) → agrees cs row a ≡ true
unfolding agrees
agrees_by [] row a each = refl
agrees_by (c ∷ cs) row a each =
    and_from _ _
    (not_from_false _ (ap (λ b. knows a c (not b)) (sym (has_first row)) ∙ each 0 (omega arith)))
    (agrees_by cs (row / 2) a
    (λ i h. ap (λ b. knows a (slice_index cs i) (not b)) (has_next row i) ∙ each (suc i) (omega arith)))

-- what agrees with an assignment agrees with any that knows less
pub agrees_down : {b a : Assignment} (cs : List ℕ) (row : ℕ) → Refines b a → agrees cs row b ≡ true → agrees cs row a ≡ true
agrees_down {b} {a} cs row r e = agrees_by cs row a (λ i h. less (slice_index cs i) (not (has row i)) (agrees_at cs row b e i h))
  where
    less : (o : ℕ) (v : Bool) → knows b o v ≡ false → knows a o v ≡ false
    less o v n = go (knows a o v) refl
      where
        go : (k : Bool) → knows a o v ≡ k → knows a o v ≡ false
        go true k = absurd (both_ways (knows b o v) n (knows_up r o v k))
        go false k = k

-- the agreeing rows are the rows that agree

pub agreeing_from : {row : ℕ} (cs rows : List ℕ) (a : Assignment) → Memᴰ row rows → agrees cs row a ≡ true → Memᴰ row (agreeing cs rows a)
unfolding agreeing
agreeing_from cs [] a m e = absurd (Memᴰ.not-nil m)
agreeing_from {row} cs (r ∷ rows) a m e =
    go (agrees cs r a) refl (Memᴰ.cases_cons m) (λ l. agreeing_from cs rows a l e)
  where
    go : (b : Bool) → agrees cs r a ≡ b → (row ≡ r) ⊎ Memᴰ row rows → (Memᴰ row rows → Memᴰ row (agreeing cs rows a)) → Memᴰ row (cond b (r ∷ agreeing cs rows a) (agreeing cs rows a))
    go true f (inl p) below = Memᴰ.head p
    go true f (inr l) below = Memᴰ.tail (below l)
    go false f (inl p) below = absurd (both_ways (agrees cs r a) f (ap (λ x. agrees cs x a) (sym p) ∙ e))
    go false f (inr l) below = below l

pub agreeing_rows : {row : ℕ} (cs rows : List ℕ) (a : Assignment) → Memᴰ row (agreeing cs rows a) → Memᴰ row rows × (agrees cs row a ≡ true)
unfolding agreeing
agreeing_rows cs [] a m = absurd (Memᴰ.not-nil m)
agreeing_rows {row} cs (r ∷ rows) a m = go (agrees cs r a) refl m (λ l. agreeing_rows cs rows a l)
  where
    onward : Memᴰ row rows × (agrees cs row a ≡ true) → Memᴰ row (r ∷ rows) × (agrees cs row a ≡ true)
    onward p = (Memᴰ.tail p.0, p.1)

    split : agrees cs r a ≡ true → (row ≡ r) ⊎ Memᴰ row (agreeing cs rows a) → (Memᴰ row (agreeing cs rows a) → Memᴰ row rows × (agrees cs row a ≡ true)) → Memᴰ row (r ∷ rows) × (agrees cs row a ≡ true)
    split f (inl p) below = (Memᴰ.head p, ap (λ x. agrees cs x a) p ∙ f)
    split f (inr l) below = onward (below l)

    go : (b : Bool) → agrees cs r a ≡ b → Memᴰ row (cond b (r ∷ agreeing cs rows a) (agreeing cs rows a)) → (Memᴰ row (agreeing cs rows a) → Memᴰ row rows × (agrees cs row a ≡ true)) → Memᴰ row (r ∷ rows) × (agrees cs row a ≡ true)
    go true f l below = split f (Memᴰ.cases_cons l) below
    go false f l below = onward (below l)
