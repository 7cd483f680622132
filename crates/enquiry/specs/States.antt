-- What an enquiry keeps, what each call makes of it, and which histories leave it so.
use Rattle.std.specs.Prelude.{◌≡◌, ℕ, cond, List, [], ◌∷◌, ◌++◌, map, Option, None, Some}
use Rattle.enquiry.specs.Fitting.{asked, back_answer, known_with, look_answer, Opening, settle_answer, tree_with}
use Rattle.enquiry.specs.Histories.{all_but_last, counted, given, History, is_done, settled_by, since_begun, standing}
use Rattle.calls.specs.declared.call.Call.{Call}
use Rattle.calls.specs.declared.call.Call.TheVariants.{Settle, Back, Again, Look, Next}
use Rattle.calls.specs.declared.reply.Reply.{Reply}
use Rattle.calls.specs.declared.reply.Reply.TheVariants.{Done, Refused, Known, Dead, Listed}
use Rattle.enquiry.specs.declared.settlement.Settlement.{Settlement}
use Rattle.listing.specs.Events.{builds_in, choices_in, Event, events}
use Rattle.listing.specs.Moves.{build_of, Outcome, Place, run_on, stand}
use Rattle.listing.specs.Walk.{rest, StandsAfter}
use Rattle.listing.specs.declared.build.Build.{Build}
use Rattle.listing.specs.declared.position.Position.TheVariants.{Unbegun}
use Rattle.listing.specs.declared.progress.Progress.{Progress}
use Rattle.listing.specs.declared.progress.Progress.TheVariants.{Built, Stopped, End}

-- the settlements, the oldest first; the last build given since the listing began; where the listing stands
pub record State : Type 0 where
  pub settlements : List Settlement
  pub last : Option Build
  pub place : Place

abbrev pub begun_with : List Settlement → State
begun_with ss = record { settlements = ss; last = None; place = stand Unbegun [] }

-- a reply, and the state then
pub record Step : Type 0 where
  pub reply : Reply
  pub state : State

-- a call that may be refused; where it is not, the listing begins with these settlements
abbrev pub done_or_refused : Reply → State → List Settlement → Step
done_or_refused reply s ss = record { reply = reply; state = cond (is_done reply) (begun_with ss) s }

abbrev pub last_after : Option Build → Progress → Option Build
last_after before (Built b n) = Some b
last_after before (Stopped n) = before
last_after before (End n) = before

abbrev pub after_next : State → Outcome → Step
after_next s outcome =
    record {
      reply = Listed outcome.answer;
      state = record { settlements = s.settlements; last = last_after s.last outcome.answer; place = outcome.place };
    }

-- what each call answers and leaves
abbrev pub step : Opening → State → Call → Step
step o s (Settle option v) = done_or_refused (settle_answer o s.settlements option) s (settled_by (Settle option v) s.settlements)
step o s Back = done_or_refused (back_answer s.settlements) s (all_but_last s.settlements)
step o s Again = done_or_refused Done s s.settlements
step o s Look = record { reply = look_answer o s.settlements; state = s }
step o s (Next budget) = after_next s (run_on (asked o) o.order (known_with o s.settlements) budget s.place)

-- what is said of a settle, a back and an again; of a look and a next nothing is
abbrev pub unasked : Call → Type 0 → Type 0
unasked (Settle option v) said = said
unasked Back said = said
unasked Again said = said
unasked Look said = Unit {0}
unasked (Next budget) said = Unit {0}

-- what a reply says of the place, or else what was said before
abbrev pub stands_by : Reply → Place → Type 0 → Type 0
stands_by Done p before = before
stands_by (Refused refusal) p before = before
stands_by (Known a) p before = before
stands_by Dead p before = before
stands_by (Listed progress) p before = StandsAfter progress p.position

abbrev pub StandsBy : History → Place → Type 0
StandsBy [] p = p ≡ stand Unbegun []
StandsBy (said ∷ earlier) p = stands_by said.reply p (StandsBy earlier p)

abbrev pub last_of : List Build → Option Build
last_of [] = None
last_of (b ∷ []) = Some b
last_of (b ∷ d ∷ bs) = last_of (d ∷ bs)

-- With these settlements, the listing has come by these builds and so many choices, and the rest of the tree is left.
pub record Passed (o : Opening) (ss : List Settlement) (bs : List Build) (n : ℕ) (p : Place) : Type 0 where
  pub before : List Event
  pub parts : events (tree_with o ss) ≡ before ++ rest (asked o) o.order (known_with o ss) p
  pub builds : map build_of (builds_in before) ≡ bs
  pub choices : choices_in before ≡ n

-- a history of calls leaves a state
pub record Leaves (o : Opening) (h : History) (s : State) : Type 0 where
  pub settlements : s.settlements ≡ standing h
  pub last : s.last ≡ last_of (given h)
  pub stands : StandsBy (since_begun h) s.place
  pub passed : Passed o (standing h) (given h) (counted h) s.place

-- what is left of the tree where the listing stands
abbrev pub left_of : Opening → State → List Event
left_of o s = rest (asked o) o.order (known_with o s.settlements) s.place
