-- The laws of closures.
use Rattle.ruleset.proofs.ClosureLaws.{asked_once, closure_asked, closure_grows, closure_least}
use Rattle.ruleset.proofs.closing.closure_laws.Goals as goal

pub returns : goal.returns
returns c = record { least = closure_least; asked = closure_asked; once = asked_once; grows = closure_grows }
