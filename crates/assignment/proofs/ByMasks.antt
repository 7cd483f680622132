-- What the check looks up where an operation goes by its two masks.
use Rattle.assignment.specs.Laws.{bits_from_has, build_total, has_one_below, known_outside_at, known_outside_by, masks_equal, shared_has, total_build}
use Rattle.assignment.specs.Masks.{has_and, has_every, has_or, has_rest}
use Rattle.assignment.proofs.Complement.{and_not}
use Rattle.assignment.proofs.FullMasks.{all_decided, all_known}

pub ruleset by_masks = (masks_equal, has_every, has_or, has_and, has_rest, has_one_below, bits_from_has, shared_has, and_not, all_known, known_outside_at, known_outside_by, all_decided, total_build, build_total)
