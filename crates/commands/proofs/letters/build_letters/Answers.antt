-- All letters.
use Rattle.std.proofs.Common.{rules}
use Rattle.std.proofs.lemmas.List.FromFn.{fill_by_all}
use Rattle.commands.specs.Replies.{build_letter}
use Rattle.commands.proofs.letters.build_letters.Goals as goal

pub returns : goal.returns
returns c = fill_by_all (build_letter c.args.build) c.loop-option.letters 64 0 c.loop-option.invariant.0 (search rules)
