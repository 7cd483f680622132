-- The laws of the replies' lines.
use Rattle.commands.proofs.ReplyLaws.{one_lines, told_apart}
use Rattle.commands.proofs.laws.reply_laws.Goals as goal

pub returns : goal.returns
returns c = record { one_line = one_lines; told_apart = told_apart }
