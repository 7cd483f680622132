-- Settlements that were each of an option of which nothing was known.
use Rattle.std.specs.Prelude.{Bool, true, ◌&&◌, not, nat_lt, List, [], ◌∷◌}
use Rattle.assignment.specs.Knows.{known}
use Rattle.assignment.specs.Lattice.{put}
use Rattle.assignment.specs.declared.assignment.Assignment.{Assignment}
use Rattle.enquiry.specs.declared.settlement.Settlement.{Settlement}

abbrev pub well_settled : Assignment → List Settlement → Bool
well_settled a [] = true
well_settled a (s ∷ ss) = (nat_lt s.option 64 && not (known a s.option)) && well_settled (put s.option s.value a) ss
