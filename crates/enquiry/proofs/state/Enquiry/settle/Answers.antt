-- There is room for the settlement, and it is of an option of which nothing was known.
use Rattle.std.proofs.Common.{◌≡◌, ◌<◌, sym, ap, ◌∙◌, subst, true, false, arith}
use Rattle.assignment.specs.Knows.{known}
use Rattle.assignment.specs.Lattice.{no_from}
use Rattle.enquiry.specs.Fitting.{settled}
use Rattle.enquiry.specs.Settled.{well_settled}
use Rattle.enquiry.specs.declared.settlement.Settlement.{Settlement}
use Rattle.enquiry.proofs.SettledLaws.{room_to_settle, well_more}
use Rattle.enquiry.proofs.state.Enquiry.settle.Goals as goal

pub push-requires : goal.push-requires
push-requires g c =
    let q = c.args.self.now in
    let new : known (settled (no_from q.options q.start) q.settlements.items) c.args.option ≡ false =
    ap (λ a. known a c.args.option) (sym c.known.ensures) ∙ sym c.if-is_known.ensures in
    let below : c.args.option < 64 = omega (arith, c.if-option-self.false, q.few) in
    (omega arith, room_to_settle (no_from q.options q.start) q.settlements.items c.args.option q.calm q.well below new)

pub invariant_of-self-clause-well : goal.invariant_of-self-clause-well
invariant_of-self-clause-well g c =
    let q = c.args.self.now in
    let new : known (settled (no_from q.options q.start) q.settlements.items) c.args.option ≡ false =
    ap (λ a. known a c.args.option) (sym c.known.ensures) ∙ sym c.if-is_known.ensures in
    let below : c.args.option < 64 = omega (arith, c.if-option-self.false, q.few) in
    let s : Settlement = record { option = c.args.option; value = c.args.value } in
    subst (λ ss. well_settled (no_from q.options q.start) ss ≡ true) (sym c.push.ensures.items)
    (well_more (no_from q.options q.start) q.settlements.items s q.well below new)
