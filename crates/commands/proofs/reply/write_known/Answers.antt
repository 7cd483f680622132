-- The letters are those of the first options.
use Rattle.std.proofs.Common.{◌≡◌, [], ◌++◌, codes, length, ap, ◌∙◌}
use Rattle.std.proofs.lemmas.List.{append-nil}
use Rattle.commands.specs.Replies.{ended, known_letter, known_letters, over}
use Rattle.commands.proofs.Lines.{letters_first}
use Rattle.commands.proofs.reply.write_known.Goals as goal
use Rattle.commands.proofs.reply.write_known.Goals.{After-write_line}

text : (c : After-write_line) → codes "known " ++ (c.first_letters.result.now ++ []) ≡ codes "known " ++ known_letters c.args.known.now c.args.options
text c =
    ap (λ xs. codes "known " ++ xs)
    (append-nil c.first_letters.result.now
    ∙ letters_first (known_letter c.args.known.now) c.args.options c.known_letters-letters.result c.first_letters.result.now c.known_letters-letters.ensures c.first_letters.ensures)

pub returns-clause-written : goal.returns-clause-written
returns-clause-written c = c.write_line.ensures.written ∙ ap (λ xs. over (ended xs) c.args.buffer.now) (text (goal.at.returns-clause-written c).After-write_line)

pub returns-clause-count : goal.returns-clause-count
returns-clause-count c = c.write_line.ensures.count ∙ ap (λ xs. length (ended xs)) (text (goal.at.returns-clause-count c).After-write_line)
