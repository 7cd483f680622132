-- Questions as they cross the boundary: two numbers each, the mask of the options known yes, then that of those known no.
use Rattle.std.specs.Prelude.{ℕ, ◌%◌, ◌^◌, List, [], ◌∷◌}
use Rattle.std.proofs.Common.{mod-lt, arith}
use Rattle.assignment.specs.declared.assignment.Assignment.{Assignment}
use Rattle.ruleset.specs.Listed.{Rule}

-- the assignment with these masks; a number that crosses has 64 bits, and of any other the low 64 count
unfoldable pub question : ℕ → ℕ → Assignment
question y n =
    record { yes = y % 2 ^ 64; no = n % 2 ^ 64; fits = (mod-lt y (omega arith), mod-lt n (omega arith)) }

-- each question's masks replaced by those of the reply; a last number alone is no question
unfoldable pub answered : Rule → List ℕ → List ℕ
answered f [] = []
answered f (last ∷ []) = last ∷ []
answered f (y ∷ n ∷ rest) = (f (question y n)).yes ∷ (f (question y n)).no ∷ answered f rest
