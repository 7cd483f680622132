-- The options of a mask, from the least on.
use Rattle.std.specs.Prelude.{◌≡◌, ℕ, zero, suc, ◌<◌, ◌≤◌, Bool, true, false, cond, ◌⊎◌, List, [], ◌∷◌, ◌++◌, refl}
use Rattle.std.proofs.Common.{arith, inl, inr, sym, ap, subst, ◌∙◌}
use mathlib.Core.List.Memᴰ
use mathlib.Core.List.{Memᴰ}
use Rattle.std.proofs.lemmas.Bool.{cases_lt}
use Rattle.assignment.specs.Knows.{has}

-- those below n
unfoldable pub options_below : (n mask : ℕ) → List ℕ
options_below zero mask = []
options_below (suc n) mask = options_below n mask ++ cond (has mask n) (n ∷ []) []

abbrev pub options_in : ℕ → List ℕ
options_in mask = options_below 64 mask

pub options_small : (n mask o : ℕ) → Memᴰ o (options_below n mask) → o < n
unfolding options_below
options_small zero mask o m = absurd (Memᴰ.not-nil m)
options_small (suc n) mask o m =
    go (options_small n mask o) (Memᴰ.append_cases (options_below n mask) m) (has mask n) refl
  where
    go : (Memᴰ o (options_below n mask) → o < n) → Memᴰ o (options_below n mask) ⊎ Memᴰ o (cond (has mask n) (n ∷ []) []) → (b : Bool) → has mask n ≡ b → o < suc n
    go small (inl l) b e = let h = small l in omega arith
    go small (inr l) true e =
        let at = Memᴰ.eq_of_singleton (subst (λ b. Memᴰ o (cond b (n ∷ []) [])) e l) in
        omega arith
    go small (inr l) false e = absurd (Memᴰ.not-nil (subst (λ b. Memᴰ o (cond b (n ∷ []) [])) e l))

pub options_all : (n mask o : ℕ) → o < n → has mask o ≡ true → Memᴰ o (options_below n mask)
unfolding options_below
options_all zero mask o h k = absurd (omega arith)
options_all (suc n) mask o h k = go (options_all n mask o) (cases_lt o n)
  where
    go : (o < n → has mask o ≡ true → Memᴰ o (options_below n mask)) → (o < n) ⊎ (n ≤ o) → Memᴰ o (options_below n mask ++ cond (has mask n) (n ∷ []) [])
    go rest (inl l) = Memᴰ.append_left (cond (has mask n) (n ∷ []) []) (rest l k)
    go rest (inr l) =
        let at : o ≡ n = omega arith in
        Memᴰ.append_right (options_below n mask)
        (subst (λ b. Memᴰ o (cond b (n ∷ []) [])) (sym (ap (has mask) (sym at) ∙ k))
        (Memᴰ.head at))
