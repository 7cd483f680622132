-- Whether a rule allows a build, found by trying every filling of the listed options.
use Rattle.std.specs.Prelude.{◌≡◌, ℕ, Bool, true, false, ◌&&◌, ◌||◌, List, [], ◌∷◌}
use Rattle.assignment.specs.Lattice.{put, same, total}
use Rattle.assignment.specs.declared.assignment.Assignment.{Assignment}
use Rattle.ruleset.specs.Closure.{closure}
use Rattle.ruleset.specs.Listed.{Rule}
use Rattle.ruleset.specs.Meaning.{LawfulRule}
use Rattle.ruleset.specs.Tree.{Below, Covers, finds, Fits, tree}

unfoldable pub fills : Rule → List ℕ → Assignment → Bool
fills f [] c = total c && same (f c) c
fills f (o ∷ os) c = fills f os (put o true c) || fills f os (put o false c)

-- a filling that the rule allows is a build that fits, and where the list has every unknown option, there is such a filling
-- as soon as some build fits
abbrev pub FillsBuilds : Type 0
FillsBuilds = (f : Rule) (os : List ℕ) (c : Assignment) → (fills f os c ≡ true → (b : Assignment) × Fits f c b) × (Below os → Covers os c → (b : Assignment) → Fits f c b → fills f os c ≡ true)

-- with listed options below 64, among them every unknown one, the search tree finds a build exactly if some filling is one
abbrev pub SearchFills : Type 0
SearchFills = (f : Rule) → LawfulRule f → (os : List ℕ) → Below os → (c : Assignment) → Covers os c → finds (tree f os (closure f c)) ≡ fills f os c
