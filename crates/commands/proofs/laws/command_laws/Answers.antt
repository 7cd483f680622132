-- The laws of command lines.
use Rattle.commands.proofs.Printing.{long_refused, others_refused, read_if_printed, short_commands, unique_commands}
use Rattle.commands.proofs.laws.command_laws.Goals as goal

pub returns : goal.returns
returns c = record { read = read_if_printed; others = others_refused; unique = unique_commands; short = short_commands; long = long_refused }
