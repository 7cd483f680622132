-- The options so far are listed.
use Rattle.std.proofs.Common.{◌≡◌, ◌≤◌}
use Rattle.arrayvec.specs.ArrayVec.{array_vec_len}
use Rattle.assignment.specs.Options.{options_below}
use Rattle.folders.proofs.hidden.list_options.Given as goal

abbrev pub invariant-loop-option : goal.invariant-loop-option
invariant-loop-option l =
    (array_vec_len l.options ≤ l.option) × (l.options.items ≡ options_below l.option l.mask)
