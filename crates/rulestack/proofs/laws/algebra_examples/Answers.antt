-- The examples are worked out in ExamplesAnswered.
use Rattle.rulestack.proofs.ExamplesAnswered.{answered}
use Rattle.rulestack.proofs.laws.algebra_examples.Goals as goal

pub returns : goal.returns
returns c = answered
