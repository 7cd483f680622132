-- The values that rows share.
use Rattle.std.specs.Prelude.{◌≡◌, ℕ, zero, suc, ◌/◌, ◌<◌, Bool, true, false, cond, ◌&&◌, ◌⊎◌, List, [], ◌∷◌, map, length, ◌==◌, slice_index, refl}
use Rattle.std.proofs.Common.{arith, inl, inr, sym, ap, ◌∙◌}
use Rattle.std.specs.Bool.{beq}
use mathlib.Core.List.Memᴰ
use mathlib.Core.List.{Memᴰ}
use Rattle.std.proofs.lemmas.Bool.{and_from, and_parts, eq-eqb, eqb-true, or_cases, or_left, or_right}
use Rattle.assignment.specs.Knows.{has, knows}
use Rattle.assignment.specs.Lattice.{put}
use Rattle.assignment.specs.Laws.{put_knows}
use Rattle.assignment.specs.declared.assignment.Assignment.{Assignment}
use Rattle.sheet_rules.specs.Agreement.{has_first, has_next, odd}
use Rattle.sheet_rules.specs.Equal.{same_value, value_same}

abbrev pub half : ℕ → ℕ
half row = row / 2

-- whether all rows have a value in the first column
unfoldable pub all_say : Bool → List ℕ → Bool
all_say v [] = true
all_say v (row ∷ rows) = beq (odd row) v && all_say v rows

-- the value is added where the test holds
abbrev pub put_if : Bool → ℕ → Bool → Assignment → Assignment
put_if b o v a = cond b (put o v a) a

-- each column's value that all rows share is added
unfoldable pub add_shared : List ℕ → List ℕ → Assignment → Assignment
add_shared [] rows a = a
add_shared (c ∷ cs) rows a =
    add_shared cs (map half rows) (put_if (all_say false rows) c false (put_if (all_say true rows) c true a))

-- the option is some column, in which all rows have the value
abbrev pub Shared : List ℕ → List ℕ → ℕ → Bool → Type 0
Shared cs rows o v =
    (i : ℕ) × (i < length cs) × (slice_index cs i ≡ o) × ((row : ℕ) → Memᴰ row rows → has row i ≡ v)

all_say_at : (v : Bool) (rows : List ℕ) → all_say v rows ≡ true → (row : ℕ) → Memᴰ row rows → has row 0 ≡ v
unfolding all_say
all_say_at v [] e row m = absurd (Memᴰ.not-nil m)
all_say_at v (r ∷ rows) e row m =
    go (Memᴰ.cases_cons m) (λ l. all_say_at v rows (and_parts _ _ e).1 row l)
  where
    go : (row ≡ r) ⊎ Memᴰ row rows → (Memᴰ row rows → has row 0 ≡ v) → has row 0 ≡ v
    go (inl p) below = ap (λ x. has x 0) p ∙ has_first r ∙ same_value _ _ (and_parts _ _ e).0
    go (inr l) below = below l

all_say_by : (v : Bool) (rows : List ℕ) → ((row : ℕ) → Memᴰ row rows → has row 0 ≡ v) → all_say v rows ≡ true
unfolding all_say
all_say_by v [] each = refl
all_say_by v (r ∷ rows) each =
    and_from _ _ (value_same _ _ (sym (has_first r) ∙ each r (Memᴰ.head refl)))
    (all_say_by v rows (λ row m. each row (Memᴰ.tail m)))

pub put_if_knows : (b : Bool) (i : ℕ) (w : Bool) (a : Assignment) (o : ℕ) (v : Bool) → o < 64 → knows (put_if b i w a) o v ≡ true → (knows a o v ≡ true) ⊎ ((b ≡ true) × (i ≡ o) × (w ≡ v))
put_if_knows false i w a o v h k = inl k
put_if_knows true i w a o v h k = go (or_cases _ _ (sym (put_knows i w a o v h) ∙ k))
  where
    go : (knows a o v ≡ true) ⊎ ((i == o && beq w v) ≡ true) → (knows a o v ≡ true) ⊎ ((true ≡ true) × (i ≡ o) × (w ≡ v))
    go (inl e) = inl e
    go (inr e) = inr (refl, eqb-true i o (and_parts _ _ e).0, same_value w v (and_parts _ _ e).1)

pub put_if_adds : (b : Bool) (i : ℕ) (w : Bool) (a : Assignment) → i < 64 → b ≡ true → knows (put_if b i w a) i w ≡ true
put_if_adds b i w a h e =
    ap (λ t. knows (put_if t i w a) i w) e ∙ put_knows i w a i w h
    ∙ or_right _ _ (and_from _ _ (eq-eqb i i refl) (value_same w w refl))

pub put_if_keeps : (b : Bool) (i : ℕ) (w : Bool) (a : Assignment) (o : ℕ) (v : Bool) → o < 64 → knows a o v ≡ true → knows (put_if b i w a) o v ≡ true
put_if_keeps true i w a o v h k = put_knows i w a o v h ∙ or_left _ _ k
put_if_keeps false i w a o v h k = k

-- what is known after the shared values are added: what was known before, and those values

pub add_shared_knows : (cs rows : List ℕ) (a : Assignment) (o : ℕ) (v : Bool) → o < 64 → knows (add_shared cs rows a) o v ≡ true → (knows a o v ≡ true) ⊎ Shared cs rows o v
unfolding add_shared
add_shared_knows [] rows a o v h k = inl k
add_shared_knows (c ∷ cs) rows a o v h k = go (add_shared_knows cs (map half rows) second o v h k)
  where
    first : Assignment
    first = put_if (all_say true rows) c true a

    second : Assignment
    second = put_if (all_say false rows) c false first

    here : (w : Bool) → all_say w rows ≡ true → c ≡ o → w ≡ v → Shared (c ∷ cs) rows o v
    here w e p q = (0, omega arith, p, λ row m. all_say_at w rows e row m ∙ q)

    in_first : (knows a o v ≡ true) ⊎ ((all_say true rows ≡ true) × (c ≡ o) × (true ≡ v)) → (knows a o v ≡ true) ⊎ Shared (c ∷ cs) rows o v
    in_first (inl e) = inl e
    in_first (inr e) = inr (here true e.0 e.1 e.2)

    in_second : (knows first o v ≡ true) ⊎ ((all_say false rows ≡ true) × (c ≡ o) × (false ≡ v)) → (knows a o v ≡ true) ⊎ Shared (c ∷ cs) rows o v
    in_second (inl e) = in_first (put_if_knows (all_say true rows) c true a o v h e)
    in_second (inr e) = inr (here false e.0 e.1 e.2)

    go : (knows second o v ≡ true) ⊎ Shared cs (map half rows) o v → (knows a o v ≡ true) ⊎ Shared (c ∷ cs) rows o v
    go (inl e) = in_second (put_if_knows (all_say false rows) c false first o v h e)
    go (inr s) =
        inr (suc s.0, omega (arith, s.1), s.2, λ row m. sym (has_next row s.0) ∙ s.3 (half row) (Memᴰ.map half m))

pub add_shared_keeps : (cs rows : List ℕ) (a : Assignment) (o : ℕ) (v : Bool) → o < 64 → knows a o v ≡ true → knows (add_shared cs rows a) o v ≡ true
unfolding add_shared
add_shared_keeps [] rows a o v h k = k
add_shared_keeps (c ∷ cs) rows a o v h k =
    let first = put_if (all_say true rows) c true a in
    add_shared_keeps cs (map half rows) (put_if (all_say false rows) c false first) o v h
    (put_if_keeps (all_say false rows) c false first o v h (put_if_keeps (all_say true rows) c true a o v h k))

pub add_shared_adds : (cs rows : List ℕ) (a : Assignment) (o : ℕ) (v : Bool) → o < 64 → Shared cs rows o v → knows (add_shared cs rows a) o v ≡ true
unfolding add_shared
add_shared_adds [] rows a o v h s = absurd (omega (arith, s.1))
add_shared_adds (c ∷ cs) rows a o v h s =
    go s.0 s.1 s.2 s.3 (λ t. add_shared_adds cs (map half rows) second o v h t)
  where
    first : Assignment
    first = put_if (all_say true rows) c true a

    second : Assignment
    second = put_if (all_say false rows) c false first

    put_now : (w : Bool) → all_say w rows ≡ true → c < 64 → knows second c w ≡ true
    put_now true e l =
        put_if_keeps (all_say false rows) c false first c true l (put_if_adds (all_say true rows) c true a l e)
    put_now false e l = put_if_adds (all_say false rows) c false first l e

    halved : (i : ℕ) → ((row : ℕ) → Memᴰ row rows → has row (suc i) ≡ v) → (row : ℕ) → Memᴰ row (map half rows) → has row i ≡ v
    halved i each row m =
        let p = Memᴰ.of_map half rows m in
        ap (λ x. has x i) (sym p.2) ∙ has_next p.0 i ∙ each p.0 p.1

    go : (i : ℕ) → i < length (c ∷ cs) → slice_index (c ∷ cs) i ≡ o → ((row : ℕ) → Memᴰ row rows → has row i ≡ v) → (Shared cs (map half rows) o v → knows (add_shared cs (map half rows) second) o v ≡ true) → knows (add_shared cs (map half rows) second) o v ≡ true
    go zero l e each below =
        add_shared_keeps cs (map half rows) second o v h
        (ap (λ x. knows second x v) (sym e) ∙ put_now v (all_say_by v rows each) (omega arith))
    go (suc i) l e each below = below (i, omega arith, e, halved i each)
