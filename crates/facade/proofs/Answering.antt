-- Questions answered one after the other: those before a place are answered, those from it on are still to be.
use Rattle.std.proofs.Common.{◌≡◌, ℕ, ◌+◌, ◌<◌, List, [], ◌∷◌, ◌++◌, length, get_or, take, drop, set, sym, refl, ap, ◌∙◌, append_assoc, mod-eq_of_lt, arith}
use Rattle.std.proofs.lemmas.List.{drop_more, drop-set-lt, length-drop, length-set, take-append-drop, take_more_set}
use Rattle.assignment.specs.Laws.{masks_equal}
use Rattle.assignment.specs.declared.assignment.Assignment.{Assignment}
use Rattle.ruleset.specs.Listed.{Rule}
use Rattle.facade.specs.Questions.{answered, question}

-- an assignment with the masks of a question is that question
pub asked : (a : Assignment) (y n : ℕ) → a.yes ≡ y → a.no ≡ n → a ≡ question y n
unfolding question
asked a y n e f =
    masks_equal a (question y n) (sym (mod-eq_of_lt a.fits.0) ∙ ap (λ m. (question m n).yes) e)
    (sym (mod-eq_of_lt a.fits.1) ∙ ap (λ m. (question y m).no) f)

-- fewer than two numbers are no question
none_asked : (f : Rule) (xs : List ℕ) → length xs < 2 → answered f xs ≡ xs
unfolding answered
none_asked f [] h = refl
none_asked f (x ∷ []) h = refl
none_asked f (x ∷ y ∷ xs) h = absurd (omega arith)

-- what is answered up to a place, and then all from there on
abbrev pub continued : Rule → ℕ → List ℕ → List ℕ
continued f i xs = take i xs ++ answered f (drop i xs)

pub at_the_end : (f : Rule) (i : ℕ) (xs : List ℕ) → length xs < i + 2 → continued f i xs ≡ xs
at_the_end f i xs h = ap (λ ys. take i xs ++ ys) (none_asked f (drop i xs) (omega (arith, length-drop i xs))) ∙ take-append-drop i xs

pub one_more : (f : Rule) (i : ℕ) (xs : List ℕ) (a : Assignment) → i + 1 < length xs → a ≡ question (get_or xs i 0) (get_or xs (i + 1) 0) → continued f i xs ≡ continued f (i + 1 + 1) (set (set xs i (f a).yes) (i + 1) (f a).no)
unfolding answered
one_more f i xs a h e =
    let first : i < length xs = omega arith in
    let ys = set xs i (f a).yes in
    let zs = set ys (i + 1) (f a).no in
    let second : i + 1 < length ys = omega (arith, length-set xs i (f a).yes) in
    let q = question (get_or xs i 0) (get_or xs (i + 1) 0) in
    let rest = drop (i + 1 + 1) xs in
    let cut = drop_more xs i 0 first ∙ ap (λ l. get_or xs i 0 ∷ l) (drop_more xs (i + 1) 0 h) in
    let pair = (f a).yes ∷ (f a).no ∷ [] in
    let front =
    take_more_set ys (i + 1) (f a).no second ∙ ap (λ l. l ++ (f a).no ∷ []) (take_more_set xs i (f a).yes first)
    ∙ append_assoc (take i xs) ((f a).yes ∷ []) ((f a).no ∷ []) in
    let back = drop-set-lt (i + 1 + 1) ys (i + 1) (f a).no (omega arith) ∙ drop-set-lt (i + 1 + 1) xs i (f a).yes (omega arith) in
    ap (λ l. take i xs ++ answered f l) cut
    ∙ ap (λ (x : Assignment). take i xs ++ ((f x).yes ∷ (f x).no ∷ answered f rest)) (sym e)
    ∙ sym (append_assoc (take i xs) pair (answered f rest))
    ∙ sym (ap (λ l. take i xs ++ pair ++ answered f l) back)
    ∙ sym (ap (λ l. l ++ answered f (drop (i + 1 + 1) zs)) front)
