-- Whether a search tree has a leaf, by the first option of the list of which nothing is known.
use Rattle.std.proofs.Common.{◌≡◌, ℕ, zero, suc, ◌+◌, ◌-◌, ◌<◌, ◌≤◌, Bool, true, false, cond, not, ◌||◌, nat_lt, List, [], ◌∷◌, length, take, drop, get_or, position, Some, None, Decides, sym, refl, ap, ◌∙◌, add-one, arith}
use Rattle.std.proofs.lemmas.Bool.{not-false, not-true}
use Rattle.std.proofs.lemmas.Bool.Decides.{Decides-at, nat_tests}
use Rattle.std.proofs.lemmas.List.{take_rest}
use Rattle.std.proofs.lemmas.List.Quantifiers.{position-Some}
use Rattle.std.specs.List.{position_or_len}
use Rattle.assignment.specs.Knows.{known}
use Rattle.assignment.specs.Lattice.{inconsistent, put}
use Rattle.assignment.specs.declared.assignment.Assignment.{Assignment}
use Rattle.ruleset.specs.Closure.{closure}
use Rattle.ruleset.specs.Fillings.{fills}
use Rattle.ruleset.specs.Listed.{Rule}
use Rattle.ruleset.specs.Meaning.{LawfulRule}
use Rattle.ruleset.specs.Tree.{Below, Covers, finds, Fits, tree, unknown}
use Rattle.ruleset.proofs.FillingLaws.{fills_builds, search_fills}
use Rattle.ruleset.proofs.TreeLaws.{tree_choice, tree_dead, tree_leaf, tree_skip}

pub finds_dead : (f : Rule) (os : List ℕ) (c : Assignment) → true ≡ inconsistent c → false ≡ finds (tree f os c)
finds_dead f os c i = sym (ap finds (tree_dead f os c (sym i)))

-- every option of the list is known
leaf_found : (f : Rule) (os : List ℕ) (c : Assignment) → false ≡ inconsistent c → length os ≤ position_or_len (unknown c) os → true ≡ finds (tree f os c)
leaf_found f [] c i h = sym (ap finds (tree_leaf f c (sym i)))
leaf_found f (o ∷ os) c i h = go (known c o) refl h (leaf_found f os c i)
  where
    go : (k : Bool) → known c o ≡ k → suc (length os) ≤ cond (not (not k)) (1 + position_or_len (unknown c) os) 0 → (length os ≤ position_or_len (unknown c) os → true ≡ finds (tree f os c)) → true ≡ finds (tree f (o ∷ os) c)
    go true k l rest = rest (omega arith) ∙ sym (ap finds (tree_skip f o os c k))
    go false k l rest = absurd (omega arith)

pub finds_leaf : (f : Rule) (os : List ℕ) (c : Assignment) → false ≡ inconsistent c → position (unknown c) os ≡ None → true ≡ finds (tree f os c)
finds_leaf f os c i none = leaf_found f os c i (past (position_or_len (unknown c) os) (length os) none)
  where
    past : (n l : ℕ) → cond (nat_lt n l) (Some n) None ≡ None → l ≤ n
    past n l h = grind (arith, nat_tests)

-- the options after place i
abbrev pub after : List ℕ → ℕ → List ℕ
after os i = take (length os - (i + 1)) (drop (i + 1) os)

choice_found : (f : Rule) (os : List ℕ) (i : ℕ) (c : Assignment) → false ≡ inconsistent c → i < length os → known c (get_or os i 0) ≡ false → ((k : ℕ) → k < i → known c (get_or os k 0) ≡ true) → (finds (tree f (drop (suc i) os) (closure f (put (get_or os i 0) true c))) || finds (tree f (drop (suc i) os) (closure f (put (get_or os i 0) false c)))) ≡ finds (tree f os c)
choice_found f [] i c alive h new before = absurd (omega arith)
choice_found f (o ∷ os) zero c alive h new before = sym (ap finds (tree_choice f o os c (sym alive) new))
choice_found f (o ∷ os) (suc i) c alive h new before =
    choice_found f os i c alive (omega arith) new (λ k l. before (suc k) (omega arith))
    ∙ sym (ap finds (tree_skip f o os c (before 0 (omega arith))))

finds_choice : (f : Rule) (os : List ℕ) (i o : ℕ) (c : Assignment) → false ≡ inconsistent c → position (unknown c) os ≡ Some i → o ≡ get_or os i 0 → (finds (tree f (after os i) (closure f (put o true c))) || finds (tree f (after os i) (closure f (put o false c)))) ≡ finds (tree f os c)
finds_choice f os i o c alive place read =
    let at = position-Some (unknown c) os i 0 place in
    let rest : after os i ≡ drop (suc i) os = take_rest os (i + 1) ∙ ap (λ n. drop n os) (add-one i) in
    ap (λ ps. finds (tree f ps (closure f (put o true c))) || finds (tree f ps (closure f (put o false c)))) rest
    ∙ ap (λ p. finds (tree f (drop (suc i) os) (closure f (put p true c))) || finds (tree f (drop (suc i) os) (closure f (put p false c)))) read
    ∙ choice_found f os i c alive at.0 (not-true (known c (get_or os i 0)) at.1) (λ k l. not-false (known c (get_or os k 0)) (at.2 k l))

pub finds_yes : (f : Rule) (os : List ℕ) (i o : ℕ) (c : Assignment) → false ≡ inconsistent c → position (unknown c) os ≡ Some i → o ≡ get_or os i 0 → true ≡ finds (tree f (after os i) (closure f (put o true c))) → true ≡ finds (tree f os c)
finds_yes f os i o c alive place read found =
    ap (λ b. b || finds (tree f (after os i) (closure f (put o false c)))) found
    ∙ finds_choice f os i o c alive place read

pub finds_no : (f : Rule) (os : List ℕ) (i o : ℕ) (c : Assignment) → false ≡ inconsistent c → position (unknown c) os ≡ Some i → o ≡ get_or os i 0 → false ≡ finds (tree f (after os i) (closure f (put o true c))) → finds (tree f (after os i) (closure f (put o false c))) ≡ finds (tree f os c)
finds_no f os i o c alive place read missed =
    ap (λ b. b || finds (tree f (after os i) (closure f (put o false c)))) missed
    ∙ finds_choice f os i o c alive place read

-- what a search says that answers r
pub record Found (f : Rule) (os : List ℕ) (a : Assignment) (r : Bool) : Type 0 where
  pub answer : r ≡ finds (tree f os (closure f a))
  pub fills : Below os → Covers os a → r ≡ fills f os a
  pub builds : Below os → Covers os a → Decides r ((b : Assignment) × Fits f a b)

pub found : (f : Rule) → LawfulRule f → (os : List ℕ) (a : Assignment) (r : Bool) → r ≡ finds (tree f os (closure f a)) → Found f os a r
found f l os a r e =
    record {
      answer = e;
      fills = filled;
      builds = λ below covers. Decides-at _ _ (filled below covers) ((fills_builds f os a).0, λ b. (fills_builds f os a).1 below covers b.0 b.1);
    }
  where
    filled : Below os → Covers os a → r ≡ fills f os a
    filled below covers = e ∙ search_fills f l os below a covers
