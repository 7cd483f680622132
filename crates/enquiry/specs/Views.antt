-- What an enquiry was opened with and what it keeps.
use Rattle.std.specs.Prelude.{Result, Ok, Err, Option, None, Some}
use Rattle.assignment.specs.declared.assignment.Assignment.{Assignment}
use Rattle.calls.specs.declared.refusal.CallRefusal.{CallRefusal}
use Rattle.calls.specs.declared.reply.Reply.{Reply}
use Rattle.calls.specs.declared.reply.Reply.TheVariants.{Done, Refused, Known, Dead}
use Rattle.enquiry.specs.Fitting.{Opening}
use Rattle.enquiry.specs.Listings.{place_of}
use Rattle.enquiry.specs.States.{State}
use Rattle.enquiry.specs.declared.state.Enquiry.{Enquiry}
use Rattle.listing.specs.SellingOrder.{selling_order}
use Rattle.ruleset.specs.Meaning.{Meaning}

abbrev pub opening_of : {R : Type 0} → Meaning → Enquiry R → Opening
opening_of rules q =
    record { options = q.options; start = q.start; rule = q.rule; rules = rules; order = selling_order }

abbrev pub state_of : {R : Type 0} → Enquiry R → State
state_of q = record { settlements = q.settlements.items; last = q.last; place = place_of q.listing }

-- a call that is done or refused, as a reply
abbrev pub done_view : {X : Type 0} → Result X CallRefusal → Reply
done_view (Ok x) = Done
done_view (Err refusal) = Refused refusal

-- what a look gives, as a reply
abbrev pub look_view : Option Assignment → Reply
look_view None = Dead
look_view (Some a) = Known a
