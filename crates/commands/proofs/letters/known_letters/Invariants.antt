-- The letters so far.
use Rattle.std.proofs.Common.{◌≡◌, ℕ, ◌<◌, length, get_or}
use Rattle.commands.specs.Replies.{known_letter}
use Rattle.commands.proofs.letters.known_letters.Given as goal

abbrev pub invariant-loop-option : goal.invariant-loop-option
invariant-loop-option l = (length l.letters ≡ 64) × ((k : ℕ) → k < l.option → get_or l.letters k 0 ≡ known_letter l.known k)
