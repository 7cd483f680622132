-- The letters are those of the first options, and the choices the digits of their number.
use Rattle.std.proofs.Common.{◌≡◌, [], ◌++◌, codes, length, ap, ◌∙◌}
use Rattle.std.specs.Fmt.{decimal}
use Rattle.commands.specs.Replies.{build_letter, build_letters, ended, over}
use Rattle.commands.proofs.Lines.{letters_first, two_joined}
use Rattle.commands.proofs.reply.write_build.Goals as goal
use Rattle.commands.proofs.reply.write_build.Goals.{After-write_line}

text : (c : After-write_line) → codes "build " ++ (c.first_letters.result.now ++ (codes " " ++ (c.as_bytes-choices.result.now ++ []))) ≡ codes "build " ++ build_letters c.args.build c.args.options ++ codes " " ++ decimal c.args.opened
text c =
    two_joined (codes "build ") (codes " ") c.first_letters.result.now c.as_bytes-choices.result.now (build_letters c.args.build c.args.options) (decimal c.args.opened)
    (letters_first (build_letter c.args.build) c.args.options c.build_letters-letters.result c.first_letters.result.now c.build_letters-letters.ensures c.first_letters.ensures)
    (c.as_bytes-choices.ensures.value ∙ c.format.ensures.text)

pub returns-clause-written : goal.returns-clause-written
returns-clause-written c = c.write_line.ensures.written ∙ ap (λ xs. over (ended xs) c.args.buffer.now) (text (goal.at.returns-clause-written c).After-write_line)

pub returns-clause-count : goal.returns-clause-count
returns-clause-count c = c.write_line.ensures.count ∙ ap (λ xs. length (ended xs)) (text (goal.at.returns-clause-count c).After-write_line)
