-- All letters.
use Rattle.std.proofs.Common.{rules}
use Rattle.std.proofs.lemmas.List.FromFn.{fill_by_all}
use Rattle.commands.specs.Replies.{known_letter}
use Rattle.commands.proofs.letters.known_letters.Goals as goal

pub returns : goal.returns
returns c = fill_by_all (known_letter c.args.known.now) c.loop-option.letters 64 0 c.loop-option.invariant.0 (search rules)
