-- The pieces so far stand over the front of what was there.
use Rattle.std.proofs.Common.{◌≡◌, length, take}
use Rattle.commands.specs.Replies.{over, text_in}
use Rattle.commands.proofs.buffer.write_line.Given as goal

abbrev pub invariant-loop-piece : goal.invariant-loop-piece
invariant-loop-piece l =
    record {
      end : l.end ≡ length (text_in (take l.piece-index l.pieces));
      written : l.buffer ≡ over (text_in (take l.piece-index l.pieces)) l.fn.buffer;
    }
