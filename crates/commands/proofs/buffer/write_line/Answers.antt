-- There is room for the next piece.
use Rattle.std.proofs.Common.{[], arith}
use Rattle.commands.proofs.Lines.{pieces_so_far}
use Rattle.commands.proofs.buffer.write_line.Goals as goal

pub write_piece-end-requires : goal.write_piece-end-requires
write_piece-end-requires c =
    omega (arith, c.requires, c.loop-piece.invariant.end, pieces_so_far c.args.pieces.now c.loop-piece.piece-index (record { ref_ptr = (0, 0); now = [] }) c.loop-piece-test.true)
