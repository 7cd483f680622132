-- The closure of what is asked next is the closure of the question; each round adds to what is known.
use Rattle.std.proofs.Common.{◌≡◌, ◌-◌}
use Rattle.assignment.specs.Size.{size}
use Rattle.ruleset.specs.Closure.{closure}
use Rattle.ruleset.proofs.closing.closure.Given as goal

abbrev pub invariant-loop-reply : goal.invariant-loop-reply
invariant-loop-reply g l =
    let f = (g.R.RuleSet.meaning l.initial.rules).reply l.rule in
    record {
      same : g.R.RuleSet.meaning l.rules ≡ g.R.RuleSet.meaning l.initial.rules;
      closed : closure f l.current ≡ closure f l.initial.current;
    }

abbrev pub decreases-loop-reply : goal.decreases-loop-reply
decreases-loop-reply g l = 64 - size 64 l.current
