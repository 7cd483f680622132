-- The laws of cutting bytes into lines.
use Rattle.commands.proofs.Cuts.{could_be_pending, splits}
use Rattle.commands.proofs.LineLaws.{all_written, lines_written}
use Rattle.commands.proofs.laws.splitting_laws.Goals as goal

pub returns : goal.returns
returns c = record { splits = splits; some = could_be_pending; lines = lines_written; all = all_written }
