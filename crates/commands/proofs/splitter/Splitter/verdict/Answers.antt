-- A line longer than any command is none.
use Rattle.std.proofs.Common.{◌<◌, length, arith, sym}
use Rattle.commands.proofs.Printing.{long_refused}
use Rattle.commands.proofs.splitter.Splitter.verdict.Goals as goal

pub returns-else-self-le-LONGEST : goal.returns-else-self-le-LONGEST
returns-else-self-le-LONGEST c bytes p =
    let long : 21 < length bytes = omega (arith, p.count) in
    sym (long_refused bytes long)
