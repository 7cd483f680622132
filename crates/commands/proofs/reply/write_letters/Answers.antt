-- The letters are those of the first options.
use Rattle.std.proofs.Common.{◌≡◌, [], ◌++◌, length, ap, ◌∙◌}
use Rattle.std.proofs.lemmas.List.{append-nil}
use Rattle.commands.specs.Replies.{build_letter, build_letters, ended, over}
use Rattle.commands.proofs.Lines.{letters_first}
use Rattle.commands.proofs.reply.write_letters.Goals as goal
use Rattle.commands.proofs.reply.write_letters.Goals.{After-write_line}

text : (c : After-write_line) → c.first_letters.result.now ++ [] ≡ build_letters c.args.build c.args.options
text c =
    append-nil c.first_letters.result.now
    ∙ letters_first (build_letter c.args.build) c.args.options c.build_letters-letters.result c.first_letters.result.now c.build_letters-letters.ensures c.first_letters.ensures

pub returns-clause-written : goal.returns-clause-written
returns-clause-written c = c.write_line.ensures.written ∙ ap (λ xs. over (ended xs) c.args.buffer.now) (text (goal.at.returns-clause-written c).After-write_line)

pub returns-clause-count : goal.returns-clause-count
returns-clause-count c = c.write_line.ensures.count ∙ ap (λ xs. length (ended xs)) (text (goal.at.returns-clause-count c).After-write_line)
