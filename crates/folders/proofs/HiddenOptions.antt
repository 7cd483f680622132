-- Once all shown options are known, the hidden ones are all that is unknown without them.
use Rattle.std.proofs.Common.{◌≡◌, ℕ, Bool, true, false, not, ◌||◌, ◌&&◌, List, sym, ap, ◌∙◌, subst, ap₂}
use Rattle.std.proofs.lemmas.Bool.{both_ways, true_from_ne_false}
use Rattle.assignment.specs.Knows.{has, known, KnownOutside, knows}
use Rattle.assignment.specs.Lattice.{known_outside, outside}
use Rattle.assignment.specs.Laws.{known_outside_at, outside_shown}
use Rattle.assignment.specs.Options.{options_all, options_in, options_small}
use Rattle.assignment.specs.declared.assignment.Assignment.{Assignment}
use Rattle.folders.specs.Entries.{fits_below}
use Rattle.ruleset.specs.Fillings.{fills}
use Rattle.ruleset.specs.Listed.{Rule}
use Rattle.ruleset.specs.Tree.{Below, Covers}

pub hidden_below : (hidden : ℕ) → Below (options_in hidden)
hidden_below hidden o m = options_small 64 hidden o m

pub hidden_covers : (hidden : ℕ) (a : Assignment) → KnownOutside hidden a → Covers (options_in hidden) (outside hidden a)
hidden_covers hidden a shown o h u = options_all 64 hidden o h (true_from_ne_false (has hidden o) not_shown)
  where
    not_shown : has hidden o ≡ false → ⊥
    not_shown e =
        both_ways (known (outside hidden a) o) u
        (ap (λ p. p || knows (outside hidden a) o false) (outside_shown hidden a o true e)
        ∙ ap (λ p. knows a o true || p) (outside_shown hidden a o false e) ∙ shown o h e)

-- a search over the hidden options, below a question that has all shown ones
pub hidden_search : (hidden : ℕ) (f : Rule) (a b : Assignment) (os : List ℕ) (r : Bool) → os ≡ options_in hidden → b ≡ outside hidden a → true ≡ known_outside hidden a → (Below os → Covers os b → r ≡ fills f os b) → not r ≡ (known_outside hidden a && not (fits_below hidden f a))
hidden_search hidden f a b os r listed shown known decides =
    let covers = hidden_covers hidden a (known_outside_at hidden a (sym known)) in
    let found =
    decides (subst Below (sym listed) (hidden_below hidden))
    (subst (λ xs. Covers xs b) (sym listed) (subst (Covers (options_in hidden)) (sym shown) covers)) in
    ap not (found ∙ ap₂ (fills f) listed shown) ∙ ap (λ k. k && not (fits_below hidden f a)) known
