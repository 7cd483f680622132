-- What one call more makes of what is read off a history.
use Rattle.std.proofs.Common.{◌≡◌, List, [], ◌∷◌, ◌++◌, Option, Some, refl, sym, ap, ◌∙◌, subst, arith}
use Rattle.std.proofs.lemmas.List.{append-nil}
use Rattle.std.proofs.lemmas.Option.{none-some, same_Some}
use mathlib.Core.List.{Memᴰ}
use Rattle.enquiry.specs.Fitting.{Opening}
use Rattle.enquiry.specs.Histories.{build_given, counted, given, History, settled_by, since_begun, standing}
use Rattle.enquiry.specs.States.{begun_with, last_after, last_of, Leaves, Passed, StandsBy, State}
use Rattle.calls.specs.declared.call.Call.{Call}
use Rattle.calls.specs.declared.refusal.CallRefusal.{CallRefusal}
use Rattle.calls.specs.declared.reply.Reply.TheVariants.{Done, Refused, Known, Dead}
use Rattle.enquiry.specs.declared.settlement.Settlement.{Settlement}
use Rattle.assignment.specs.declared.assignment.Assignment.{Assignment}
use Rattle.listing.specs.Moves.{Place}
use Rattle.listing.specs.declared.build.Build.{Build}
use Rattle.listing.specs.declared.progress.Progress.{Progress}
use Rattle.listing.specs.declared.progress.Progress.TheVariants.{Built, Stopped, End}

-- another history of which the same is read
pub record Same (h g : History) : Type 0 where
  pub stand : standing h ≡ standing g
  pub give : given h ≡ given g
  pub count : counted h ≡ counted g
  pub stands : (p : Place) → StandsBy (since_begun h) p → StandsBy (since_begun g) p

pub leaves_same : (o : Opening) {h g : History} {s : State} → Same h g → Leaves o h s → Leaves o g s
leaves_same o {h} {g} {s} e l =
    record {
      settlements = l.settlements ∙ e.stand;
      last = l.last ∙ ap last_of e.give;
      stands = e.stands s.place l.stands;
      passed =
          subst (λ n. Passed o (standing g) (given g) n s.place) e.count
          (subst (λ bs. Passed o (standing g) bs (counted h) s.place) e.give
          (subst (λ ss. Passed o ss (given h) (counted h) s.place) e.stand l.passed));
    }

-- what is refused, and a look
pub refused_same : (call : Call) (refusal : CallRefusal) (h : History) → Same h (record { call = call; reply = Refused refusal } ∷ h)
refused_same call refusal h =
    record { stand = refl; give = sym (append-nil (given h)); count = omega arith; stands = λ p x. x }

pub known_same : (call : Call) (a : Assignment) (h : History) → Same h (record { call = call; reply = Known a } ∷ h)
known_same call a h =
    record { stand = refl; give = sym (append-nil (given h)); count = omega arith; stands = λ p x. x }

pub dead_same : (call : Call) (h : History) → Same h (record { call = call; reply = Dead } ∷ h)
dead_same call h =
    record { stand = refl; give = sym (append-nil (given h)); count = omega arith; stands = λ p x. x }

-- with a call that is done, or from the outset, the listing begins
pub begun : (o : Opening) (ss : List Settlement) → Passed o ss [] 0 (begun_with ss).place
begun o ss = record { before = []; parts = sym (append-nil _); builds = refl; choices = refl }

pub done_leaves : (o : Opening) (call : Call) (h : History) → Leaves o (record { call = call; reply = Done } ∷ h) (begun_with (settled_by call (standing h)))
done_leaves o call h =
    record { settlements = refl; last = refl; stands = refl; passed = begun o (settled_by call (standing h)) }

-- the last build
last_is : (bs : List Build) (b : Build) → last_of (bs ++ (b ∷ [])) ≡ Some b
last_is [] b = refl
last_is (c ∷ []) b = refl
last_is (c ∷ d ∷ bs) b = last_is (d ∷ bs) b

pub last_given : (bs : List Build) (b : Build) → last_of bs ≡ Some b → Memᴰ b bs
last_given [] b e = absurd (none-some b e)
last_given (c ∷ []) b e = Memᴰ.head (sym (same_Some c b e))
last_given (c ∷ d ∷ bs) b e = Memᴰ.tail (last_given (d ∷ bs) b e)

pub last_listed : (bs : List Build) (before : Option Build) (answer : Progress) → before ≡ last_of bs → last_after before answer ≡ last_of (bs ++ build_given answer)
last_listed bs before (Built b n) e = sym (last_is bs b)
last_listed bs before (Stopped n) e = e ∙ ap last_of (sym (append-nil bs))
last_listed bs before (End n) e = e ∙ ap last_of (sym (append-nil bs))
