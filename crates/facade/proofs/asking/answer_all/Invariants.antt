-- The questions before this one are answered, and the rules mean what they meant.
use Rattle.std.proofs.Common.{◌≡◌, ◌*◌}
use Rattle.facade.specs.Questions.{answered}
use Rattle.facade.proofs.Answering.{continued}
use Rattle.facade.proofs.asking.answer_all.Given as goal

abbrev pub invariant-loop-i : goal.invariant-loop-i
invariant-loop-i g l =
    (g.R.RuleSet.meaning l.rules ≡ g.R.RuleSet.meaning l.initial.rules)
    × (answered ((g.R.RuleSet.meaning l.initial.rules).reply 0) l.initial.masks ≡ continued ((g.R.RuleSet.meaning l.initial.rules).reply 0) (2 * l.i) l.masks)
