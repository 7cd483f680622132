-- What was called and what was answered, and what can be read off it.
use Rattle.std.specs.Prelude.{ℕ, ◌+◌, ◌-◌, Bool, true, false, cond, List, [], ◌∷◌, ◌++◌, length, take}
use Rattle.calls.specs.declared.call.Call.{Call}
use Rattle.calls.specs.declared.call.Call.TheVariants.{Settle, Back, Again, Look, Next}
use Rattle.calls.specs.declared.reply.Reply.{Reply}
use Rattle.calls.specs.declared.reply.Reply.TheVariants.{Done, Refused, Known, Dead, Listed}
use Rattle.enquiry.specs.declared.settlement.Settlement.{Settlement}
use Rattle.listing.specs.declared.build.Build.{Build}
use Rattle.listing.specs.declared.progress.Progress.{Progress}
use Rattle.listing.specs.declared.progress.Progress.TheVariants.{Built, Stopped, End}

pub record Said : Type 0 where
  pub call : Call
  pub reply : Reply

-- the newest call first
abbrev pub History : Type 0
History = List Said

abbrev pub all_but_last : {X : Type 0} → List X → List X
all_but_last xs = take (length xs - 1) xs

-- what a call that was done makes of the settlements; no other changes them
abbrev pub settled_by : Call → List Settlement → List Settlement
settled_by (Settle o v) ss = ss ++ (record { option = o; value = v } ∷ [])
settled_by Back ss = all_but_last ss
settled_by Again ss = ss
settled_by Look ss = ss
settled_by (Next n) ss = ss

-- whether a call was done: settle, back and again are the ones that may be
abbrev pub is_done : Reply → Bool
is_done Done = true
is_done (Refused refusal) = false
is_done (Known a) = false
is_done Dead = false
is_done (Listed progress) = false

-- the settlements that stand, the oldest first
abbrev pub standing : History → List Settlement
standing [] = []
standing (said ∷ earlier) = cond (is_done said.reply) (settled_by said.call (standing earlier)) (standing earlier)

-- what was said since the listing last began
abbrev pub since_begun : History → History
since_begun [] = []
since_begun (said ∷ earlier) = cond (is_done said.reply) [] (said ∷ since_begun earlier)

-- the build that a reply gives, and the choices that it counts
abbrev pub build_given : Progress → List Build
build_given (Built b n) = b ∷ []
build_given (Stopped n) = []
build_given (End n) = []

abbrev pub choices_counted : Progress → ℕ
choices_counted (Built b n) = n
choices_counted (Stopped n) = n
choices_counted (End n) = n

abbrev pub progress_of : {X : Type 0} → X → (Progress → X) → Reply → X
progress_of other f Done = other
progress_of other f (Refused refusal) = other
progress_of other f (Known a) = other
progress_of other f Dead = other
progress_of other f (Listed progress) = f progress

abbrev pub builds_said : History → List Build
builds_said [] = []
builds_said (said ∷ earlier) = builds_said earlier ++ progress_of [] build_given said.reply

abbrev pub choices_said : History → ℕ
choices_said [] = 0
choices_said (said ∷ earlier) = choices_said earlier + progress_of 0 choices_counted said.reply

-- the builds given and the choices counted since the listing last began, the oldest build first
abbrev pub given : History → List Build
given h = builds_said (since_begun h)

abbrev pub counted : History → ℕ
counted h = choices_said (since_begun h)
