-- What rows have in common, gathered row by row.
use Rattle.std.specs.Prelude.{ℕ, ◌/◌, true, false, not, List, [], ◌∷◌, Some, None, Option, bit_and, bit_or}
use Rattle.assignment.specs.Lattice.{contradiction}
use Rattle.ruleset.specs.Listed.{Rule}
use Rattle.assignment.specs.declared.assignment.Assignment.{Assignment}
use Rattle.sheet_rules.specs.Agreement.{odd}
use Rattle.sheet_rules.specs.Shared.{put_if}
use Rattle.sheet_rules.specs.declared.common.Common.{Common}

-- the bits that every row has, and those that some row has
abbrev pub with_row : Option Common → ℕ → Common
with_row None row = record { every = row; some = row }
with_row (Some c) row = record { every = bit_and c.every row; some = bit_or c.some row }

unfoldable pub gathered : Option Common → List ℕ → Option Common
gathered c [] = c
gathered c (row ∷ rows) = gathered (Some (with_row c row)) rows

-- what is left of it behind the first column
abbrev pub halved : Common → Common
halved c = record { every = c.every / 2; some = c.some / 2 }

-- the first column's value is added where the rows share it
abbrev pub add_first : ℕ → Common → Assignment → Assignment
add_first o c a = put_if (not (odd c.some)) o false (put_if (odd c.every) o true a)

unfoldable pub add_common : List ℕ → Common → Assignment → Assignment
add_common [] c a = a
add_common (o ∷ os) c a = add_common os (halved c) (add_first o c a)

abbrev pub reply_with : List ℕ → Option Common → Rule
reply_with cs None a = contradiction
reply_with cs (Some c) a = add_common cs c a
