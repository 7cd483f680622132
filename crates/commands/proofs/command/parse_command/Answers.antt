-- The answer is what the line parses to, and so the call that it is the printed form of.
use Rattle.std.proofs.Common.{◌≡◌, sym, ap, ◌∙◌, rules}
use Rattle.commands.specs.Parsing.{parsed}
use Rattle.commands.proofs.Printing.{accepted_printed, printed_accepted}
use Rattle.commands.proofs.command.parse_command.Goals as goal

pub returns-clause-printed : goal.returns-clause-printed
returns-clause-printed c call =
    let at : c.ok_or.result ≡ parsed c.args.line.now = search rules in (
      λ e. accepted_printed c.args.line.now call (sym at ∙ e),
      λ p. at ∙ ap parsed p.1 ∙ printed_accepted call p.0,
    )
