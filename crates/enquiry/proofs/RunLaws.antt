-- The run law.
use Rattle.std.proofs.Common.{◌≡◌, ℕ, ◌+◌, Bool, true, false, cond, nat_lt, nat_le, List, [], ◌∷◌, ◌++◌, length, map, ◌⊎◌, inl, inr, refl, sym, ap, ap₂, ◌∙◌, subst, arith}
use Rattle.std.proofs.lemmas.Bool.{both_ways, le-ltb, lt-ltb}
use Rattle.std.proofs.lemmas.List.{append_assoc, length-map, map-append}
use Rattle.assignment.specs.Knows.{known}
use Rattle.assignment.specs.Lattice.{inconsistent, Total}
use Rattle.assignment.specs.declared.assignment.Assignment.{Assignment}
use Rattle.enquiry.specs.Fitting.{Answer, asked, back_answer, Exhausted, FirstGiven, FirstOf, Fitting, Following, Kept, known_with, NextAnswer, Opening, outstanding, settle_answer, tree_with}
use Rattle.enquiry.specs.Histories.{build_given, choices_counted, counted, given, History, settled_by, standing}
use Rattle.enquiry.specs.RunLaw.{at_opening, called, Holds, RunLaw, Sent, sent_on, Sound}
use Rattle.enquiry.specs.States.{done_or_refused, Leaves, after_next, Passed, State, Step, step}
use Rattle.calls.specs.declared.call.Call.{Call}
use Rattle.calls.specs.declared.call.Call.TheVariants.{Settle, Back, Again, Look, Next}
use Rattle.calls.specs.declared.refusal.CallRefusal.{CallRefusal}
use Rattle.calls.specs.declared.refusal.CallRefusal.TheVariants.{NoOption, Fixed, NothingSettled}
use Rattle.calls.specs.declared.reply.Reply.{Reply}
use Rattle.calls.specs.declared.reply.Reply.TheVariants.{Done, Refused, Known, Dead, Listed}
use Rattle.enquiry.specs.declared.settlement.Settlement.{Settlement}
use Rattle.enquiry.proofs.BuildLists.{first_part, next_part, whole_part}
use Rattle.enquiry.proofs.HistoryLaws.{begun, dead_same, done_leaves, known_same, last_listed, leaves_same, refused_same}
use Rattle.listing.specs.Events.{builds_in, choices_before, choices_in, Event, events}
use Rattle.listing.specs.Moves.{build_of, Outcome, Place, run_on, stand}
use Rattle.listing.specs.Walk.{rest, RunsOn}
use Rattle.listing.specs.declared.build.Build.{Build}
use Rattle.listing.specs.declared.position.Position.TheVariants.{Unbegun}
use Rattle.listing.specs.declared.progress.Progress.{Progress}
use Rattle.listing.specs.declared.progress.Progress.TheVariants.{Built, Stopped, End}
use Rattle.listing.proofs.EventLaws.{before_behind, builds, builds_append, builds_are_leaves, choices_append, ends, Passes, passes, Passing, stops}
use Rattle.listing.proofs.Running.{walk_runs}
use Rattle.ruleset.specs.Closure.{closure}
use Rattle.ruleset.specs.Meaning.{lawful_rule, LawfulRule}
use Rattle.ruleset.specs.Tree.{Fits, Lists}
use Rattle.ruleset.proofs.Listings.{tree_lists}

-- what running on passes is what is answered
pub passing_said : {budget d : ℕ} {more : List Event} {answer : Progress} {left : List Event} → Passing budget 0 d more answer left → (map build_of (builds_in more) ≡ build_given answer) × (choices_in more ≡ choices_counted answer)
passing_said {budget} {d} (stops h e b c) =
    (ap (map build_of) b ∙ ap build_given (sym e), c ∙ omega arith ∙ ap choices_counted (sym e))
passing_said {budget} {d} (ends h e b c n) =
    (ap (map build_of) b ∙ ap build_given (sym e), c ∙ omega arith ∙ ap choices_counted (sym e))
passing_said {budget} {d} (builds x h e b c) =
    (ap (map build_of) b ∙ ap build_given (sym e), c ∙ omega arith ∙ ap choices_counted (sym e))

if_true : (X Y : Type 0) (b : Bool) → b ≡ true → X → cond b X Y
if_true X Y true e x = x
if_true X Y false e x = absurd (both_ways false refl e)

if_false : (X Y : Type 0) (b : Bool) → b ≡ false → Y → cond b X Y
if_false X Y true e y = absurd (both_ways true e refl)
if_false X Y false e y = y

counted_from : (make : ℕ → Progress) (n : ℕ) (answer : Progress) → answer ≡ make (0 + n) → Listed answer ≡ Listed (make n)
counted_from make n answer e =
    let same : 0 + n ≡ n = omega arith in
    ap Listed (e ∙ ap make same)

settle_cases : (o : Opening) (ss : List Settlement) (option : ℕ) → (settle_answer o ss option ≡ Done) ⊎ ((refusal : CallRefusal) × (settle_answer o ss option ≡ Refused refusal))
settle_cases o ss option = go (nat_le o.options option) (known (known_with o ss) option)
  where
    go : (p q : Bool) → (cond p (Refused NoOption) (cond q (Refused Fixed) Done) ≡ Done) ⊎ ((refusal : CallRefusal) × (cond p (Refused NoOption) (cond q (Refused Fixed) Done) ≡ Refused refusal))
    go true q = inr (NoOption, refl)
    go false true = inr (Fixed, refl)
    go false false = inl refl

back_cases : (ss : List Settlement) → (back_answer ss ≡ Done) ⊎ ((refusal : CallRefusal) × (back_answer ss ≡ Refused refusal))
back_cases [] = inr (NothingSettled, refl)
back_cases (x ∷ ss) = inl refl

module _ (o : Opening) (sound : Sound o) where
  rule_lawful : LawfulRule (asked o)
  rule_lawful = lawful_rule sound.lawful o.rule

  abbrev FitsWith : List Settlement → Assignment → Type 0
  FitsWith ss = Fits (asked o) (known_with o ss)

  total : (ss : List Settlement) (a : Assignment) → FitsWith ss a → Total a
  total ss a fit = fit.0

  -- all builds that fit, in two parts
  lists : (ss : List Settlement) (xs ys : List Event) → events (tree_with o ss) ≡ xs ++ ys → Lists o.order (FitsWith ss) (builds_in xs ++ builds_in ys)
  lists ss xs ys e =
      subst (Lists o.order (FitsWith ss)) (sym (builds_are_leaves (tree_with o ss)) ∙ ap builds_in e ∙ builds_append xs ys)
      (tree_lists (asked o) rule_lawful o.order sound.below (known_with o ss) (λ p below unknown. sound.covers p below))

  first_given : (h : History) (p : Place) → Passed o (standing h) (given h) (counted h) p → FirstGiven o h
  first_given h p passed =
      subst (FirstOf o.order (Fitting o h)) passed.builds
      (first_part o.order (FitsWith (standing h)) (total (standing h)) (builds_in passed.before) (builds_in (rest (asked o) o.order (known_with o (standing h)) p)) (lists (standing h) passed.before (rest (asked o) o.order (known_with o (standing h)) p) passed.parts))

  -- a next, at a place where the listing stands after this history

  abbrev at_hand : History → Place → List Event
  at_hand h p = rest (asked o) o.order (known_with o (standing h)) p

  abbrev come_to : History → Place → ℕ → Outcome
  come_to h p budget = run_on (asked o) o.order (known_with o (standing h)) budget p

  module _ (h : History) (p : Place) (budget : ℕ) (l : Passed o (standing h) (given h) (counted h) p) where
    ran : RunsOn (asked o) o.order (known_with o (standing h)) budget 0 (at_hand h p) (come_to h p budget)
    ran = walk_runs (asked o) rule_lawful o.order sound.below (known_with o (standing h)) budget p

    way : Passes budget 0 (at_hand h p) (come_to h p budget).answer (at_hand h (come_to h p budget).place)
    way = passes ran.runs

    passed_on : Passed o (standing h) (given h ++ build_given (come_to h p budget).answer) (counted h + choices_counted (come_to h p budget).answer) (come_to h p budget).place
    passed_on =
        record {
          before = l.before ++ way.more;
          parts = l.parts ∙ ap (λ es. l.before ++ es) way.parts ∙ sym (append_assoc l.before way.more (at_hand h (come_to h p budget).place));
          builds =
              ap (map build_of) (builds_append l.before way.more)
              ∙ map-append build_of (builds_in l.before) (builds_in way.more) ∙ ap₂ ◌++◌ l.builds (passing_said way.passing).0;
          choices = choices_append l.before way.more ∙ ap₂ ◌+◌ l.choices (passing_said way.passing).1;
        }

    -- what is outstanding is what is still to be opened before the next build
    outstanding_left : outstanding o h ≡ choices_before 0 (at_hand h p)
    outstanding_left =
        let many : length (given h) ≡ length (builds_in l.before) = ap length (sym l.builds) ∙ length-map (builds_in l.before) build_of in
        let behind = ap₂ choices_before many l.parts ∙ before_behind l.before (at_hand h p) in
        omega (arith, behind, l.choices)

    in_parts : Lists o.order (FitsWith (standing h)) (builds_in l.before ++ builds_in (at_hand h p))
    in_parts = lists (standing h) l.before (at_hand h p) l.parts

    pub exhausted : builds_in (at_hand h p) ≡ [] → Exhausted (Fitting o h) (given h)
    exhausted e =
        subst (Exhausted (Fitting o h)) l.builds
        (whole_part o.order (FitsWith (standing h)) (total (standing h)) (builds_in l.before) (subst (λ ys. Lists o.order (FitsWith (standing h)) (builds_in l.before ++ ys)) e in_parts))

    following : (x : Assignment) (ys : List Assignment) → builds_in (at_hand h p) ≡ x ∷ ys → Following o.order (Fitting o h) (given h) (build_of x)
    following x ys e =
        subst (λ bs. Following o.order (Fitting o h) bs (build_of x)) l.builds
        (next_part o.order (FitsWith (standing h)) (total (standing h)) (builds_in l.before) x ys (subst (λ zs. Lists o.order (FitsWith (standing h)) (builds_in l.before ++ zs)) e in_parts))

    -- what may be answered where so many choices are outstanding
    abbrev May : ℕ → Type 0
    May n =
        cond (nat_lt budget n) (Listed (come_to h p budget).answer ≡ Listed (Stopped budget))
        (((Listed (come_to h p budget).answer ≡ Listed (End n)) × Exhausted (Fitting o h) (given h)) ⊎ ((b : Build) × (Listed (come_to h p budget).answer ≡ Listed (Built b n)) × Following o.order (Fitting o h) (given h) b))

    answered : NextAnswer o h budget (Listed (come_to h p budget).answer)
    answered = subst May (sym outstanding_left) (may (choices_before 0 (at_hand h p)) way.passing)
      where
        may : (n : ℕ) → Passing budget 0 n way.more (come_to h p budget).answer (at_hand h (come_to h p budget).place) → May n
        may n (stops k e b c) = if_true _ _ (nat_lt budget n) (lt-ltb budget n k) (counted_from Stopped budget (come_to h p budget).answer e)
        may n (ends k e b c over) =
            let none : builds_in (at_hand h p) ≡ [] = ap builds_in way.parts ∙ builds_append way.more (at_hand h (come_to h p budget).place) ∙ ap₂ ◌++◌ b (ap builds_in over) in
            if_false _ _ (nat_lt budget n) (le-ltb budget n k) (inl (counted_from End n (come_to h p budget).answer e, exhausted none))
        may n (builds x k e b c) =
            let next : builds_in (at_hand h p) ≡ x ∷ builds_in (at_hand h (come_to h p budget).place) = ap builds_in way.parts ∙ builds_append way.more (at_hand h (come_to h p budget).place) ∙ ap (λ bs. bs ++ builds_in (at_hand h (come_to h p budget).place)) b in
            if_false _ _ (nat_lt budget n) (le-ltb budget n k)
            (inr (build_of x, counted_from (Built (build_of x)) n (come_to h p budget).answer e, following x (builds_in (at_hand h (come_to h p budget).place)) next))

  -- one call more

  abbrev And : History → Call → Step → Type 0
  And h call done = Holds o (record { history = record { call = call; reply = done.reply } ∷ h; state = done.state })

  keeps : (h : History) (call : Call) (done : Step) → Kept o h → Answer o h call done.reply → Leaves o (record { call = call; reply = done.reply } ∷ h) done.state → And h call done
  keeps h call done k a l =
      (l, (k, a, first_given (record { call = call; reply = done.reply } ∷ h) done.state.place l.passed))

  -- settle, back and again are refused, or the listing begins
  done_right : (h : History) (s : State) (call : Call) (reply : Reply) → (reply ≡ Done) ⊎ ((refusal : CallRefusal) × (reply ≡ Refused refusal)) → Leaves o h s → Leaves o (record { call = call; reply = reply } ∷ h) (done_or_refused reply s (settled_by call (standing h))).state
  done_right h s call reply (inl e) l =
      subst (λ r. Leaves o (record { call = call; reply = r } ∷ h) (done_or_refused r s (settled_by call (standing h))).state) (sym e) (done_leaves o call h)
  done_right h s call reply (inr x) l =
      subst (λ r. Leaves o (record { call = call; reply = r } ∷ h) (done_or_refused r s (settled_by call (standing h))).state) (sym x.1)
      (leaves_same o (refused_same call x.0 h) l)

  -- a look
  look_right : (h : History) (s : State) (call : Call) (dead : Bool) (c : Assignment) → Leaves o h s → Leaves o (record { call = call; reply = cond dead Dead (Known c) } ∷ h) s
  look_right h s call true c l = leaves_same o (dead_same call h) l
  look_right h s call false c l = leaves_same o (known_same call c h) l

  -- a next
  next_right : (h : History) (s : State) (budget : ℕ) → s.settlements ≡ standing h → Leaves o h s → Leaves o (record { call = Next budget; reply = Listed (come_to h s.place budget).answer } ∷ h) (after_next s (come_to h s.place budget)).state
  next_right h s budget e l =
      record {
        settlements = e;
        last = last_listed (given h) s.last (come_to h s.place budget).answer l.last;
        stands = (ran h s.place budget l.passed).stands;
        passed = passed_on h s.place budget l.passed;
      }

  right : (h : History) (s : State) (call : Call) → Leaves o h s → Kept o h → And h call (step o (record { settlements = standing h; last = s.last; place = s.place }) call)
  right h s call l k = go call
    where
      at : State
      at = record { settlements = standing h; last = s.last; place = s.place }

      left_at : Leaves o h at
      left_at = record { settlements = refl; last = l.last; stands = l.stands; passed = l.passed }

      go : (call : Call) → And h call (step o at call)
      go (Settle option value) =
          keeps h (Settle option value) (step o at (Settle option value)) k refl
          (done_right h at (Settle option value) (settle_answer o (standing h) option) (settle_cases o (standing h) option) left_at)
      go Back = keeps h Back (step o at Back) k refl (done_right h at Back (back_answer (standing h)) (back_cases (standing h)) left_at)
      go Again = keeps h Again (step o at Again) k refl (done_leaves o Again h)
      go Look =
          let c = closure (asked o) (known_with o (standing h)) in
          keeps h Look (step o at Look) k refl (look_right h at Look (inconsistent c) c left_at)
      go (Next budget) = keeps h (Next budget) (step o at (Next budget)) k (answered h s.place budget l.passed) (next_right h at budget refl left_at)

  one_more : (sent : Sent) (call : Call) → Holds o sent → Holds o (called o sent call)
  one_more sent call holds =
      let s = sent.state in
      subst (λ ss. And sent.history call (step o (record { settlements = ss; last = s.last; place = s.place }) call)) (sym holds.0.settlements)
      (right sent.history s call holds.0 holds.1)

  opened : Holds o at_opening
  opened = (record { settlements = refl; last = refl; stands = refl; passed = begun o [] }, first_given [] (stand Unbegun []) (begun o []))

  always : (sent : Sent) (calls : List Call) → Holds o sent → Holds o (sent_on o sent calls)
  always sent [] holds = holds
  always sent (call ∷ calls) holds = always (called o sent call) calls (one_more sent call holds)

pub run_law : RunLaw
run_law o sound =
    record {
      opening = opened o sound;
      one_more = one_more o sound;
      always = λ calls. always o sound at_opening calls (opened o sound);
    }
