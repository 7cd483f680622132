-- The law leaves one answer to each call.
use Rattle.std.proofs.Common.{◌≡◌, ℕ, Bool, true, false, cond, nat_lt, ◌⊎◌, List, [], ◌∷◌, length, inl, inr, refl, sym, ap, ap₂, ◌∙◌, subst, arith}
use mathlib.Core.List.{Memᴰ}
use Rattle.std.proofs.lemmas.Bool.{both_ways}
use Rattle.assignment.specs.Knows.{has}
use Rattle.calls.specs.declared.call.Call.{Call}
use Rattle.calls.specs.declared.call.Call.TheVariants.{Settle, Back, Again, Look, Next}
use Rattle.calls.specs.declared.reply.Reply.{Reply}
use Rattle.calls.specs.declared.reply.Reply.TheVariants.{Listed}
use Rattle.enquiry.specs.Fitting.{Answer, Earlier, Exhausted, Fitting, Following, Kept, Opening, outstanding}
use Rattle.enquiry.specs.Histories.{given, History, Said}
use Rattle.enquiry.specs.RunLaw.{at_opening, Determined, Sound}
use Rattle.enquiry.specs.States.{Leaves, State, step}
use Rattle.enquiry.proofs.RunLaws.{run_law}
use Rattle.listing.specs.declared.build.Build.{Build}
use Rattle.listing.specs.declared.progress.Progress.TheVariants.{Built, Stopped, End}

not_both_earlier : (os : List ℕ) (b d : Build) → Earlier os b d → Earlier os d b → ⊥
not_both_earlier [] b d e f = e
not_both_earlier (o ∷ os) b d (inl e) (inl f) = both_ways (has b.yes o) f.1 e.0
not_both_earlier (o ∷ os) b d (inl e) (inr f) = both_ways (has d.yes o) e.1 (f.0 ∙ e.0)
not_both_earlier (o ∷ os) b d (inr e) (inl f) = both_ways (has b.yes o) f.1 (e.0 ∙ f.0)
not_both_earlier (o ∷ os) b d (inr e) (inr f) = not_both_earlier os b d e.1 f.1

one_following : (os : List ℕ) (Fit : Build → Type 0) (bs : List Build) (b d : Build) → Following os Fit bs b → Following os Fit bs d → b ≡ d
one_following os Fit bs b d x y = go (x.others_later d y.fitting) (y.others_later b x.fitting)
  where
    go : Memᴰ d bs ⊎ ((d ≡ b) ⊎ Earlier os b d) → Memᴰ b bs ⊎ ((b ≡ d) ⊎ Earlier os d b) → b ≡ d
    go (inl m) other = absurd (y.is_new m)
    go (inr (inl e)) other = sym e
    go (inr (inr e)) (inl m) = absurd (x.is_new m)
    go (inr (inr e)) (inr (inl f)) = f
    go (inr (inr e)) (inr (inr f)) = absurd (not_both_earlier os b d e f)

abbrev LongEnough : Opening → History → Reply → Type 0
LongEnough o h r = ((r ≡ Listed (End (outstanding o h))) × Exhausted (Fitting o h) (given h)) ⊎ ((b : Build) × (r ≡ Listed (Built b (outstanding o h))) × Following o.order (Fitting o h) (given h) b)

long_once : (o : Opening) (h : History) (r q : Reply) → LongEnough o h r → LongEnough o h q → r ≡ q
long_once o h r q (inl x) (inl y) = x.0 ∙ sym y.0
long_once o h r q (inl x) (inr y) = absurd (y.2.is_new (x.1 y.0 y.2.fitting))
long_once o h r q (inr x) (inl y) = absurd (x.2.is_new (y.1 x.0 x.2.fitting))
long_once o h r q (inr x) (inr y) =
    x.1 ∙ ap (λ b. Listed (Built b (outstanding o h))) (one_following o.order (Fitting o h) (given h) x.0 y.0 x.2 y.2) ∙ sym y.1

next_once : (o : Opening) (h : History) (budget : ℕ) (r q : Reply) (short : Bool) → cond short (r ≡ Listed (Stopped budget)) (LongEnough o h r) → cond short (q ≡ Listed (Stopped budget)) (LongEnough o h q) → r ≡ q
next_once o h budget r q true x y = x ∙ sym y
next_once o h budget r q false x y = long_once o h r q x y

pub answer_once : (o : Opening) (h : History) (call : Call) (r q : Reply) → Answer o h call r → Answer o h call q → r ≡ q
answer_once o h (Settle option value) r q x y = x ∙ sym y
answer_once o h Back r q x y = x ∙ sym y
answer_once o h Again r q x y = x ∙ sym y
answer_once o h Look r q x y = x ∙ sym y
answer_once o h (Next budget) r q x y = next_once o h budget r q (nat_lt budget (outstanding o h)) x y

same_said : {c d : Call} {r q : Reply} → c ≡ d → r ≡ q → ◌≡◌ {A = Said} (record { call = c; reply = r }) (record { call = d; reply = q })
same_said e f = ap₂ (λ c r. record { call = c; reply = r }) e f

abbrev front : Call → List Call → Call
front other [] = other
front other (c ∷ cs) = c

abbrev rest_of : List Call → List Call
rest_of [] = []
rest_of (c ∷ cs) = cs

pub determined : Determined
determined o sound [] [] k j e = refl
determined o sound [] (y ∷ g) k j e =
    let l = ap length e in
    absurd (omega (arith, l))
determined o sound (x ∷ h) [] k j e =
    let l = ap length e in
    absurd (omega (arith, l))
determined o sound (x ∷ h) (y ∷ g) k j e = go (determined o sound h g k.0 j.0 (ap rest_of e)) (ap (front x.call) e)
  where
    go : h ≡ g → x.call ≡ y.call → ◌≡◌ {A = History} (x ∷ h) (y ∷ g)
    go earlier same =
        let other : Answer o h x.call y.reply =
        subst (λ c. Answer o h c y.reply) (sym same) (subst (λ i. Answer o i y.call y.reply) (sym earlier) j.1) in
        ap₂ ◌∷◌ (same_said same (answer_once o h x.call x.reply y.reply k.1 other)) earlier

-- a history that keeps the law leaves some state
pub kept_leaves : (o : Opening) → Sound o → (h : History) → Kept o h → (s : State) × Leaves o h s
kept_leaves o sound [] k = (at_opening.state, (run_law o sound).opening.0)
kept_leaves o sound (said ∷ h) k = go (kept_leaves o sound h k.0)
  where
    go : (s : State) × Leaves o h s → (s : State) × Leaves o (said ∷ h) s
    go left =
        let holds = (run_law o sound).one_more (record { history = h; state = left.0 }) said.call (left.1, k.0) in
        let same = answer_once o h said.call (step o left.0 said.call).reply said.reply holds.1.1 k.1 in
        ((step o left.0 said.call).state, subst (λ r. Leaves o (record { call = said.call; reply = r } ∷ h) (step o left.0 said.call).state) same holds.0)
