-- What came so far is pending, and the rest of the piece is fed to it.
use Rattle.std.proofs.Common.{◌≡◌, ℕ, ◌≤◌, List, length}
use Rattle.commands.specs.Lines.{feed}
use Rattle.commands.specs.Splitting.{Pending}
use Rattle.commands.proofs.splitter.Splitter.next_line.Given as goal

abbrev pub invariant-loop-byte : goal.invariant-loop-byte
invariant-loop-byte l =
    record {
      shorter : length l.piece.now ≤ length l.fn.piece.now;
      fed : (bytes : List ℕ) → Pending l.fn.self bytes → (so_far : List ℕ) × Pending l.self so_far × (feed bytes l.fn.piece.now ≡ feed so_far l.piece.now);
    }

abbrev pub decreases-loop-byte : goal.decreases-loop-byte
decreases-loop-byte l = length l.piece.now
