-- What is known with the settlements still to come is what is known with all.
use Rattle.std.proofs.Common.{◌≡◌, drop}
use Rattle.assignment.specs.Lattice.{no_from}
use Rattle.enquiry.specs.Fitting.{settled}
use Rattle.enquiry.proofs.state.Enquiry.known.Given as goal

abbrev pub invariant-loop-settlement : goal.invariant-loop-settlement
invariant-loop-settlement g l =
    settled l.known (drop l.settlement-index l.settlement-items) ≡ settled (no_from l.self.options l.self.start) l.self.settlements.items
