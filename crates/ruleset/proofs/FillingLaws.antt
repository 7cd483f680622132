-- A filling that the rule allows is a build that the search tree finds.
use Rattle.std.proofs.Common.{◌≡◌, ℕ, ◌<◌, Bool, true, false, ◌||◌, ◌⊎◌, List, [], ◌∷◌, ◌++◌, refl, subst, inl, inr}
use mathlib.Core.List.Memᴰ
use mathlib.Core.List.{Memᴰ}
use Rattle.std.specs.Cmp.{both_ways as same_answer}
use Rattle.std.proofs.lemmas.Bool.{and_from, and_parts, both_ways, or_cases, or_left, or_right}
use Rattle.assignment.specs.Lattice.{put, same, total, Total}
use Rattle.assignment.specs.Laws.{put_above, put_has, refines_refl, same_true, true_same}
use Rattle.assignment.specs.declared.assignment.Assignment.{Assignment}
use Rattle.ruleset.specs.Closure.{closure}
use Rattle.ruleset.specs.Fillings.{fills, FillsBuilds, SearchFills}
use Rattle.ruleset.specs.Listed.{Rule}
use Rattle.ruleset.specs.Tree.{Below, leaves, choice, Covers, finds, Fits, leaf, Lists, none, Tree, tree}
use Rattle.ruleset.proofs.ClosureLaws.{closure_least}
use Rattle.ruleset.proofs.Fitting.{covers_tail, covers_up, fits_down, fits_put, fits_whole}
use Rattle.ruleset.proofs.Listings.{tree_lists}
use Rattle.ruleset.proofs.TreeLaws.{known_with}

fills_sound : (f : Rule) (os : List ℕ) (c : Assignment) → fills f os c ≡ true → (b : Assignment) × Fits f c b
unfolding fills
fills_sound f [] c e =
    let parts = and_parts (total c) (same (f c) c) e in
    (c, (parts.0, refines_refl c, same_true (f c) c parts.1))
fills_sound f (o ∷ os) c e =
    go (or_cases (fills f os (put o true c)) (fills f os (put o false c)) e) (λ v. fills_sound f os (put o v c))
  where
    go : (fills f os (put o true c) ≡ true) ⊎ (fills f os (put o false c) ≡ true) → ((v : Bool) → fills f os (put o v c) ≡ true → (b : Assignment) × Fits f (put o v c) b) → (b : Assignment) × Fits f c b
    go (inl y) rest = ((rest true y).0, fits_down f (rest true y).0 (put_above o true c) (rest true y).1)
    go (inr n) rest = ((rest false n).0, fits_down f (rest false n).0 (put_above o false c) (rest false n).1)

fills_complete : (f : Rule) (os : List ℕ) (c : Assignment) → Below os → Covers os c → (b : Assignment) → Fits f c b → fills f os c ≡ true
unfolding fills
fills_complete f [] c below cov b fit =
    let at : b ≡ c = fits_whole f c b cov fit in
    and_from (total c) (same (f c) c) (subst Total at fit.0) (true_same (f c) c (subst (λ x. f x ≡ x) at fit.2))
fills_complete f (o ∷ os) c below cov b fit =
    go (fits_put f o c b h fit) (λ v. fills_complete f os (put o v c) (λ p m. below p (Memᴰ.tail m)) (covered v) b)
  where
    h : o < 64
    h = below o (Memᴰ.head refl)

    covered : (v : Bool) → Covers os (put o v c)
    covered v =
        covers_tail o os (put o v c) (known_with (put o v c) o v (put_has o v c h)) (covers_up (o ∷ os) (put_above o v c) cov)

    go : Fits f (put o true c) b ⊎ Fits f (put o false c) b → ((v : Bool) → Fits f (put o v c) b → fills f os (put o v c) ≡ true) → (fills f os (put o true c) || fills f os (put o false c)) ≡ true
    go (inl g) rest = or_left (fills f os (put o true c)) (fills f os (put o false c)) (rest true g)
    go (inr g) rest = or_right (fills f os (put o true c)) (fills f os (put o false c)) (rest false g)

pub fills_builds : FillsBuilds
fills_builds f os c = (fills_sound f os c, fills_complete f os c)

-- a tree with a leaf is one that lists something

finds_some : (t : Tree) → finds t ≡ true → (b : Assignment) × Memᴰ b (leaves t)
finds_some none e = absurd (both_ways false refl e)
finds_some (leaf c) e = (c, Memᴰ.head refl)
finds_some (choice o y n) e = go (or_cases (finds y) (finds n) e) (finds_some y) (finds_some n)
  where
    go : (finds y ≡ true) ⊎ (finds n ≡ true) → (finds y ≡ true → (b : Assignment) × Memᴰ b (leaves y)) → (finds n ≡ true → (b : Assignment) × Memᴰ b (leaves n)) → (b : Assignment) × Memᴰ b (leaves y ++ leaves n)
    go (inl h) left right = ((left h).0, Memᴰ.append_left (leaves n) (left h).1)
    go (inr h) left right = ((right h).0, Memᴰ.append_right (leaves y) (right h).1)

some_finds : (t : Tree) (b : Assignment) → Memᴰ b (leaves t) → finds t ≡ true
some_finds none b m = absurd (Memᴰ.not-nil m)
some_finds (leaf c) b m = refl
some_finds (choice o y n) b m = go (Memᴰ.append_cases (leaves y) m) (some_finds y b) (some_finds n b)
  where
    go : Memᴰ b (leaves y) ⊎ Memᴰ b (leaves n) → (Memᴰ b (leaves y) → finds y ≡ true) → (Memᴰ b (leaves n) → finds n ≡ true) → (finds y || finds n) ≡ true
    go (inl h) left right = or_left (finds y) (finds n) (left h)
    go (inr h) left right = or_right (finds y) (finds n) (right h)

pub search_fills : SearchFills
search_fills f l os below c cov = same_answer (finds (tree f os (closure f c))) (fills f os c) there back
  where
    at : Lists os (Fits f c) (leaves (tree f os (closure f c)))
    at = tree_lists f l os below c (covers_up os (closure_least f l c).above cov)

    there : finds (tree f os (closure f c)) ≡ true → fills f os c ≡ true
    there e =
        let found = finds_some (tree f os (closure f c)) e in
        fills_complete f os c below cov found.0 (at.sound found.0 found.1)

    back : fills f os c ≡ true → finds (tree f os (closure f c)) ≡ true
    back e =
        let some_build = fills_sound f os c e in
        some_finds (tree f os (closure f c)) some_build.0 (at.complete some_build.0 some_build.1)
