-- The digits that are left bring the value so far to that of all.
use Rattle.std.proofs.Common.{◌≡◌, drop}
use Rattle.commands.specs.Numerals.{value_of}
use Rattle.commands.proofs.number.value_of.Given as goal

abbrev pub invariant-loop-digit : goal.invariant-loop-digit
invariant-loop-digit l = value_of l.value (drop l.digit-index l.digits) ≡ value_of 0 l.digits
