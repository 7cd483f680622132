-- The letters so far.
use Rattle.std.proofs.Common.{◌≡◌, ℕ, ◌<◌, length, get_or}
use Rattle.commands.specs.Replies.{build_letter}
use Rattle.commands.proofs.letters.build_letters.Given as goal

abbrev pub invariant-loop-option : goal.invariant-loop-option
invariant-loop-option l = (length l.letters ≡ 64) × ((k : ℕ) → k < l.option → get_or l.letters k 0 ≡ build_letter l.build k)
