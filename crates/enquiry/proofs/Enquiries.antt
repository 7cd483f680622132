-- The run law for the enquiries of the code.
use Rattle.std.proofs.Common.{◌≡◌, ℕ, ◌≤◌, ◌∷◌, refl, sym, ap₂, subst}
use mathlib.Core.List.{Memᴰ}
use Rattle.calls.specs.declared.call.Call.{Call}
use Rattle.calls.specs.declared.reply.Reply.{Reply}
use Rattle.enquiry.specs.Fitting.{asked, known_with, Opening}
use Rattle.enquiry.specs.Histories.{History}
use Rattle.enquiry.specs.RunLaw.{Holds, Sound}
use Rattle.enquiry.specs.States.{left_of, State, step}
use Rattle.enquiry.specs.Views.{opening_of}
use Rattle.enquiry.specs.declared.state.Enquiry.{Enquiry}
use Rattle.enquiry.proofs.RunLaws.{run_law}
use Rattle.listing.specs.Moves.{run_on}
use Rattle.listing.specs.SellingOrder.{selling_order}
use Rattle.listing.specs.Walk.{rest, Runs}
use Rattle.listing.specs.declared.progress.Progress.{Progress}
use Rattle.listing.proofs.OrderLaws.{once_listed, selling_order_once}
use Rattle.listing.proofs.Running.{walk_runs}
use Rattle.ruleset.specs.Meaning.{Lawful, lawful_rule, Meaning}
use Rattle.ruleset.specs.Tree.{Below}

pub sound_at : (o : Opening) → Lawful o.rules → o.options ≤ 64 → o.order ≡ selling_order → Sound o
sound_at o lawful few order =
    record {
      lawful = lawful;
      few = few;
      below = subst Below (sym order) selling_order_once.below;
      covers = λ p h. subst (Memᴰ p) (sym order) (once_listed selling_order_once p h);
    }

pub sound_opening : {R : Type 0} (rules : Meaning) (q : Enquiry R) → Lawful rules → q.options ≤ 64 → Sound (opening_of rules q)
sound_opening rules q lawful few = sound_at (opening_of rules q) lawful few refl

pub law_kept : (o p : Opening) (s t : State) (call : Call) (r : Reply) → Sound o → r ≡ (step o s call).reply → t ≡ (step o s call).state → p ≡ o → (h : History) → Holds o (record { history = h; state = s }) → Holds p (record { history = record { call = call; reply = r } ∷ h; state = t })
law_kept o p s t call r sound reply state same h holds =
    subst (λ x. Holds x (record { history = record { call = call; reply = r } ∷ h; state = t })) (sym same)
    (subst (λ x. Holds o (record { history = record { call = call; reply = r } ∷ h; state = x })) (sym state)
    (subst (λ x. Holds o (record { history = record { call = call; reply = x } ∷ h; state = (step o s call).state })) (sym reply)
    ((run_law o sound).one_more (record { history = h; state = s }) call holds)))

-- a next runs on through what is left of the tree
pub runs_next : (o : Opening) (s t : State) (budget : ℕ) (r : Progress) → Sound o → r ≡ (run_on (asked o) o.order (known_with o s.settlements) budget s.place).answer → t.settlements ≡ s.settlements → t.place ≡ (run_on (asked o) o.order (known_with o s.settlements) budget s.place).place → Runs budget 0 (left_of o s) r (left_of o t)
runs_next o s t budget r sound answer settlements place =
    let known = known_with o s.settlements in
    let outcome = run_on (asked o) o.order known budget s.place in
    let ran = walk_runs (asked o) (lawful_rule sound.lawful o.rule) o.order sound.below known budget s.place in
    let left = ap₂ (λ ss p. rest (asked o) o.order (known_with o ss) p) settlements place in
    subst (λ es. Runs budget 0 (left_of o s) r es) (sym left)
    (subst (λ x. Runs budget 0 (left_of o s) x (rest (asked o) o.order known outcome.place)) (sym answer) ran.runs)
