-- Each line takes from the front of the piece.
use Rattle.std.proofs.Common.{length}
use Rattle.counter.proofs.talk.answer_lines.Given as goal

abbrev pub decreases-loop-verdict : goal.decreases-loop-verdict
decreases-loop-verdict g l = length l.rest
