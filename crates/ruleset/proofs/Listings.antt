-- A search tree lists just the builds that the rule allows, in order.
use Rattle.std.proofs.Common.{◌≡◌, ℕ, ◌<◌, Bool, true, false, ◌⊎◌, List, [], ◌∷◌, ◌++◌, sym, refl, ◌∙◌, subst, inl, inr}
use mathlib.Core.List.Memᴰ
use mathlib.Core.List.{Memᴰ}
use Rattle.std.proofs.lemmas.Bool.{both_ways, or_cases}
use Rattle.assignment.specs.Knows.{known, knows}
use Rattle.assignment.specs.Lattice.{inconsistent, put}
use Rattle.assignment.specs.Laws.{consistent_at, knows_up, refines_refl, total_consistent}
use Rattle.assignment.specs.declared.assignment.Assignment.{Assignment}
use Rattle.ruleset.specs.Closure.{closure}
use Rattle.ruleset.specs.Listed.{Rule}
use Rattle.ruleset.specs.Meaning.{LawfulRule}
use Rattle.ruleset.specs.Tree.{Ascending, Before, Below, leaves, Covers, Fits, Lists, tree, TreeLists}
use Rattle.ruleset.proofs.ClosureLaws.{closure_least}
use Rattle.ruleset.proofs.Fitting.{covers_tail, covers_total, covers_up, fits_closure, fits_consistent, fits_down, fits_put, fits_whole}
use Rattle.ruleset.proofs.TreeLaws.{chosen_above, chosen_has, known_with, tree_choice, tree_dead, tree_leaf, tree_skip}

-- order

ascending_map : (R S : Assignment → Assignment → Type 0) (bs : List Assignment) → ((b d : Assignment) → Memᴰ b bs → Memᴰ d bs → R b d → S b d) → Ascending R bs → Ascending S bs
ascending_map R S [] up a = tt
ascending_map R S (b ∷ bs) up a = (
  λ d m. up b d (Memᴰ.head refl) (Memᴰ.tail m) (a.0 d m),
  ascending_map R S bs (λ p d m n. up p d (Memᴰ.tail m) (Memᴰ.tail n)) a.1,
)

ascending_append : (R : Assignment → Assignment → Type 0) (bs ds : List Assignment) → Ascending R bs → Ascending R ds → ((b d : Assignment) → Memᴰ b bs → Memᴰ d ds → R b d) → Ascending R (bs ++ ds)
ascending_append R [] ds a e across = e
ascending_append R (b ∷ bs) ds a e across = (
  λ d m. go d (Memᴰ.append_cases bs m),
  ascending_append R bs ds a.1 e (λ p d m n. across p d (Memᴰ.tail m) n),
)
  where
    go : (d : Assignment) → Memᴰ d bs ⊎ Memᴰ d ds → R b d
    go d (inl m) = a.0 d m
    go d (inr m) = across b d (Memᴰ.head refl) m

-- where every build of the list has the same value of an option, that option may stand before the others
ascending_same : (o : ℕ) (os : List ℕ) (v : Bool) (bs : List Assignment) → ((b : Assignment) → Memᴰ b bs → knows b o true ≡ v) → Ascending (Before os) bs → Ascending (Before (o ∷ os)) bs
ascending_same o os v bs each a =
    ascending_map (Before os) (Before (o ∷ os)) bs (λ b d m n r. inr (each b m ∙ sym (each d n), r)) a

-- a build's yes is false where its no is known
no_yes : (f : Rule) (c b : Assignment) (o : ℕ) → Fits f c b → knows c o false ≡ true → knows b o true ≡ false
no_yes f c b o fit k = consistent_at b o false (total_consistent b fit.0) (knows_up fit.1 o false k)

-- the lists of a tree, by how it begins

lists_dead : (f : Rule) (os : List ℕ) (c : Assignment) → inconsistent c ≡ true → Lists os (Fits f c) []
lists_dead f os c i =
    record {
      sound = λ b m. absurd (Memᴰ.not-nil m);
      complete = λ b fit. absurd (both_ways (inconsistent c) (fits_consistent f c b fit) i);
      ascending = tt;
    }

lists_leaf : (f : Rule) (c : Assignment) → f c ≡ c → Covers [] c → inconsistent c ≡ false → Lists [] (Fits f c) (c ∷ [])
lists_leaf f c s cov i =
    record {
      sound = λ b m. subst (Fits f c) (sym (Memᴰ.eq_of_singleton m)) (covers_total c cov i, refines_refl c, s);
      complete = λ b fit. Memᴰ.head (fits_whole f c b cov fit);
      ascending = (λ d m. absurd (Memᴰ.not-nil m), tt);
    }

lists_skip : (f : Rule) (o : ℕ) (os : List ℕ) (c : Assignment) (bs : List Assignment) → known c o ≡ true → Lists os (Fits f c) bs → Lists (o ∷ os) (Fits f c) bs
lists_skip f o os c bs k rest =
    record {
      sound = rest.sound;
      complete = rest.complete;
      ascending = go (or_cases (knows c o true) (knows c o false) k);
    }
  where
    go : (knows c o true ≡ true) ⊎ (knows c o false ≡ true) → Ascending (Before (o ∷ os)) bs
    go (inl y) = ascending_same o os true bs (λ b m. knows_up (rest.sound b m).1 o true y) rest.ascending
    go (inr n) = ascending_same o os false bs (λ b m. no_yes f c b o (rest.sound b m) n) rest.ascending

-- the builds with yes, and then those with no
lists_choice : (f : Rule) → LawfulRule f → (o : ℕ) (os : List ℕ) (c : Assignment) (ys ns : List Assignment) → o < 64 → Lists os (Fits f (closure f (put o true c))) ys → Lists os (Fits f (closure f (put o false c))) ns → Lists (o ∷ os) (Fits f c) (ys ++ ns)
lists_choice f l o os c ys ns h yes_rest no_rest =
    record {
      sound = λ b m. fit b (Memᴰ.append_cases ys m);
      complete = λ b g. found b (fits_put f o c b h g);
      ascending = ascending_append (Before (o ∷ os)) ys ns (ascending_same o os true ys has_yes yes_rest.ascending)
          (ascending_same o os false ns (λ b m. no_yes f (closure f (put o false c)) b o (no_rest.sound b m) (chosen_has f l o false c h)) no_rest.ascending)
          (λ b d m n. inl (has_yes b m, knows_up (no_rest.sound d n).1 o false (chosen_has f l o false c h)));
    }
  where
    has_yes : (b : Assignment) → Memᴰ b ys → knows b o true ≡ true
    has_yes b m = knows_up (yes_rest.sound b m).1 o true (chosen_has f l o true c h)

    fit : (b : Assignment) → Memᴰ b ys ⊎ Memᴰ b ns → Fits f c b
    fit b (inl m) = fits_down f b (chosen_above f l o true c) (yes_rest.sound b m)
    fit b (inr m) = fits_down f b (chosen_above f l o false c) (no_rest.sound b m)

    found : (b : Assignment) → Fits f (put o true c) b ⊎ Fits f (put o false c) b → Memᴰ b (ys ++ ns)
    found b (inl g) = Memᴰ.append_left ns (yes_rest.complete b (fits_closure f l (put o true c) b g))
    found b (inr g) = Memᴰ.append_right ys (no_rest.complete b (fits_closure f l (put o false c) b g))

lists_tree : (f : Rule) → LawfulRule f → (os : List ℕ) → Below os → (c : Assignment) → f c ≡ c → Covers os c → Lists os (Fits f c) (leaves (tree f os c))
lists_tree f l [] below c s cov = go (inconsistent c) refl
  where
    go : (b : Bool) → inconsistent c ≡ b → Lists [] (Fits f c) (leaves (tree f [] c))
    go true i = subst (λ t. Lists [] (Fits f c) (leaves t)) (sym (tree_dead f [] c i)) (lists_dead f [] c i)
    go false i = subst (λ t. Lists [] (Fits f c) (leaves t)) (sym (tree_leaf f c i)) (lists_leaf f c s cov i)
lists_tree f l (o ∷ os) below c s cov =
    go (inconsistent c) refl (known c o) refl (lists_tree f l os (λ p m. below p (Memᴰ.tail m)))
  where
    covered : (v : Bool) → Covers os (closure f (put o v c))
    covered v =
        covers_tail o os (closure f (put o v c)) (known_with (closure f (put o v c)) o v (chosen_has f l o v c (below o (Memᴰ.head refl))))
        (covers_up (o ∷ os) (chosen_above f l o v c) cov)

    go : (i : Bool) → inconsistent c ≡ i → (k : Bool) → known c o ≡ k → ((d : Assignment) → f d ≡ d → Covers os d → Lists os (Fits f d) (leaves (tree f os d))) → Lists (o ∷ os) (Fits f c) (leaves (tree f (o ∷ os) c))
    go true i k u rest = subst (λ t. Lists (o ∷ os) (Fits f c) (leaves t)) (sym (tree_dead f (o ∷ os) c i)) (lists_dead f (o ∷ os) c i)
    go false i true k rest =
        subst (λ t. Lists (o ∷ os) (Fits f c) (leaves t)) (sym (tree_skip f o os c k))
        (lists_skip f o os c (leaves (tree f os c)) k (rest c s (covers_tail o os c k cov)))
    go false i false k rest =
        let chosen : (v : Bool) → Lists os (Fits f (closure f (put o v c))) (leaves (tree f os (closure f (put o v c)))) = λ v. rest (closure f (put o v c)) (closure_least f l (put o v c)).stable.0 (covered v) in
        subst (λ t. Lists (o ∷ os) (Fits f c) (leaves t)) (sym (tree_choice f o os c i k))
        (lists_choice f l o os c (leaves (tree f os (closure f (put o true c)))) (leaves (tree f os (closure f (put o false c)))) (below o (Memᴰ.head refl)) (chosen true) (chosen false))

pub tree_lists : TreeLists
tree_lists f l os below a cov =
    let c = closure f a in
    let at = lists_tree f l os below c (closure_least f l a).stable.0 cov in
    record {
      sound = λ b m. fits_down f b (closure_least f l a).above (at.sound b m);
      complete = λ b fit. at.complete b (fits_closure f l a b fit);
      ascending = at.ascending;
    }
