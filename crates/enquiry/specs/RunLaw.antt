-- The run law: whatever is called, in whatever order, it is answered as the history says.
use Rattle.std.specs.Prelude.{◌≡◌, ℕ, ◌<◌, ◌≤◌, List, [], ◌∷◌, ◌++◌, map, length, drop}
use mathlib.Core.List.{Memᴰ}
use Rattle.calls.specs.declared.call.Call.{Call}
use Rattle.calls.specs.declared.reply.Reply.{Reply}
use Rattle.enquiry.specs.Fitting.{Kept, Opening}
use Rattle.enquiry.specs.Histories.{History}
use Rattle.enquiry.specs.States.{begun_with, Leaves, State, step}
use Rattle.ruleset.specs.Meaning.{Lawful}
use Rattle.ruleset.specs.Tree.{Below}

-- rules that keep their promises, and an order that has every option
pub record Sound (o : Opening) : Type 0 where
  pub lawful : Lawful o.rules
  pub few : o.options ≤ 64
  pub below : Below o.order
  pub covers : (p : ℕ) → p < 64 → Memᴰ p o.order

-- what was said, and the state then
pub record Sent : Type 0 where
  pub history : History
  pub state : State

abbrev pub called : Opening → Sent → Call → Sent
called o sent call =
    record {
      history = record { call = call; reply = (step o sent.state call).reply } ∷ sent.history;
      state = (step o sent.state call).state;
    }

-- calls sent to a new enquiry, one after the other
abbrev pub sent_on : Opening → Sent → List Call → Sent
sent_on o sent [] = sent
sent_on o sent (call ∷ calls) = sent_on o (called o sent call) calls

abbrev pub at_opening : Sent
at_opening = record { history = []; state = begun_with [] }

abbrev pub sent_to : Opening → List Call → Sent
sent_to o calls = sent_on o at_opening calls

-- the replies of a history, the oldest first
abbrev pub replies_in : History → List Reply
replies_in [] = []
replies_in (said ∷ earlier) = replies_in earlier ++ (said.reply ∷ [])

-- the same written over the front of a list
abbrev pub replied_over : History → List Reply → List Reply
replied_over h before = replies_in h ++ drop (length (replies_in h)) before

-- the history leaves the state, and every call in it was answered right
abbrev pub Holds : Opening → Sent → Type 0
Holds o sent = Leaves o sent.history sent.state × Kept o sent.history

-- It holds of a new enquiry, and of one more call where it held before; so it holds whatever was called.
pub record RunsRight (o : Opening) : Type 0 where
  pub opening : Holds o at_opening
  pub one_more : (sent : Sent) (call : Call) → Holds o sent → Holds o (called o sent call)
  pub always : (calls : List Call) → Holds o (sent_to o calls)

abbrev pub RunLaw : Type 0
RunLaw = (o : Opening) → Sound o → RunsRight o

abbrev pub calls_of : History → List Call
calls_of h = map (λ said. said.call) h

-- the law leaves no choice: the calls alone decide what is answered
abbrev pub Determined : Type 0
Determined = (o : Opening) → Sound o → (h g : History) → Kept o h → Kept o g → calls_of h ≡ calls_of g → h ≡ g
