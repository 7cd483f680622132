-- Settling, taking back and looking, by the builds that fit.
use Rattle.std.proofs.Common.{◌≡◌, ◌≢◌, ℕ, ◌-◌, ◌<◌, Bool, true, false, cond, List, [], ◌∷◌, ◌++◌, length, take, ◌↔◌, refl, sym, ap, ◌∙◌, subst, arith}
use Rattle.std.proofs.lemmas.Bool.{both_ways}
use Rattle.std.proofs.lemmas.List.{length-append}
use Rattle.std.proofs.Math.Seq.{take-append_seam}
use Rattle.assignment.specs.Knows.{has, knows}
use Rattle.assignment.specs.Lattice.{inconsistent, put, Refines, Total}
use Rattle.assignment.specs.Laws.{consistent_at, inconsistent_up, knows_up, put_above, put_has, put_least, refines_trans, total_consistent, total_other}
use Rattle.assignment.specs.declared.assignment.Assignment.{Assignment}
use Rattle.calls.specs.declared.reply.Reply.{Reply}
use Rattle.calls.specs.declared.reply.Reply.TheVariants.{Done, Refused, Known, Dead, Listed}
use Rattle.enquiry.specs.Fitting.{asked, Fitting, known_with, Opening, settled}
use Rattle.enquiry.specs.Histories.{all_but_last, History, is_done, Said, settled_by, standing}
use Rattle.enquiry.specs.RunLaw.{Sound}
use Rattle.enquiry.specs.Wants.{Looks, Settles, WantLaw}
use Rattle.enquiry.specs.declared.settlement.Settlement.{Settlement}
use Rattle.listing.specs.Moves.{build_of}
use Rattle.listing.specs.declared.build.Build.{Build}
use Rattle.ruleset.specs.Closure.{closure, Least}
use Rattle.ruleset.specs.Meaning.{lawful_rule}
use Rattle.ruleset.specs.Tree.{Fits}
use Rattle.ruleset.proofs.ClosureLaws.{closure_least}

settled_last : (a : Assignment) (ss : List Settlement) (s : Settlement) → settled a (ss ++ (s ∷ [])) ≡ put s.option s.value (settled a ss)
settled_last a [] s = refl
settled_last a (t ∷ ss) s = settled_last (put t.option t.value a) ss s

-- a build has a value exactly if it is known of it
has_known : (a : Assignment) → Total a → (option : ℕ) (value : Bool) → option < 64 → knows a option value ≡ true → has (build_of a).yes option ≡ value
unfolding knows
has_known a t option true h k = k
has_known a t option false h k = consistent_at a option false (total_consistent a t) k

known_has : (a : Assignment) → Total a → (option : ℕ) (value : Bool) → option < 64 → has (build_of a).yes option ≡ value → knows a option value ≡ true
unfolding knows
known_has a t option true h e = e
known_has a t option false h e = total_other a t option h true e

module _ (o : Opening) where
  abbrev FitsAt : Assignment → Build → Type 0
  FitsAt k b = (a : Assignment) × (build_of a ≡ b) × Fits (asked o) k a

  settle_leaves : (k : Assignment) (option : ℕ) (value : Bool) → option < 64 → (b : Build) → FitsAt (put option value k) b ↔ (FitsAt k b × (has b.yes option ≡ value))
  settle_leaves k option value h b = (there, back)
    where
      there : FitsAt (put option value k) b → FitsAt k b × (has b.yes option ≡ value)
      there (a, same, (total, above, allowed)) = (
        (a, same, (total, refines_trans above (put_above option value k), allowed)),
        subst (λ d. has d.yes option ≡ value) same
            (has_known a total option value h (knows_up above option value (put_has option value k h))),
      )

      back : FitsAt k b × (has b.yes option ≡ value) → FitsAt (put option value k) b
      back ((a, same, (total, above, allowed)), e) =
          (a, same, (total, put_least option value above (known_has a total option value h (subst (λ d. has d.yes option ≡ value) (sym same) e)), allowed))

  settles : Settles o
  settles =
      record {
        settled = λ h option value below b. subst (λ k. FitsAt k b ↔ (Fitting o h b × (has b.yes option ≡ value))) (sym (settled_last _ (standing h) (record { option = option; value = value }))) (settle_leaves (known_with o (standing h)) option value below b);
        taken_back = λ h g option value e. ap all_but_last e ∙ last_off (standing h) (record { option = option; value = value });
        begun_again = λ h. refl;
        not_done = λ h said other. passed_over said h (not_done said.reply other);
      }
    where
      last_off : (ss : List Settlement) (s : Settlement) → all_but_last (ss ++ (s ∷ [])) ≡ ss
      last_off ss s =
          let many : length (ss ++ (s ∷ [])) - 1 ≡ length ss = omega (arith, length-append ss (s ∷ [])) in
          ap (λ n. take n (ss ++ (s ∷ []))) many ∙ take-append_seam ss (s ∷ [])

      not_done : (r : Reply) → r ≢ Done → is_done r ≡ false
      not_done Done other = absurd (other refl)
      not_done (Refused refusal) other = refl
      not_done (Known a) other = refl
      not_done Dead other = refl
      not_done (Listed progress) other = refl

      passed_over : (said : Said) (h : History) → is_done said.reply ≡ false → standing (said ∷ h) ≡ standing h
      passed_over said h e = ap (λ b. cond b (settled_by said.call (standing h)) (standing h)) e

  module _ (sound : Sound o) (h : History) where
    abbrev shown : Assignment
    shown = closure (asked o) (known_with o (standing h))

    least : Least (asked o) (known_with o (standing h)) shown
    least = closure_least (asked o) (lawful_rule sound.lawful o.rule) (known_with o (standing h))

    -- a build that fits refines what a look shows
    fits_above : (a : Assignment) → Fits (asked o) (known_with o (standing h)) a → Refines a shown
    fits_above a (total, above, allowed) =
        least.least a (allowed, λ i. absurd (both_ways (inconsistent a) (total_consistent a total) i)) above

    shown_dead : (dead : Bool) → Dead ≡ cond dead Dead (Known shown) → dead ≡ true
    shown_dead true e = refl
    shown_dead false e = absurd (both_ways (is_dead (Known shown)) refl (ap is_dead (sym e)))
      where
        is_dead : Reply → Bool
        is_dead Dead = true
        is_dead Done = false
        is_dead (Refused refusal) = false
        is_dead (Known a) = false
        is_dead (Listed progress) = false

    shown_known : (dead : Bool) (c : Assignment) → Known c ≡ cond dead Dead (Known shown) → (dead ≡ false) × (c ≡ shown)
    shown_known true c e = absurd (both_ways (is_known (Known c)) (ap is_known e) refl)
      where
        is_known : Reply → Bool
        is_known (Known a) = true
        is_known Dead = false
        is_known Done = false
        is_known (Refused refusal) = false
        is_known (Listed progress) = false
    shown_known false c e = (refl, ap known_in e)
      where
        known_in : Reply → Assignment
        known_in (Known a) = a
        known_in Dead = c
        known_in Done = c
        known_in (Refused refusal) = c
        known_in (Listed progress) = c

  looks : Sound o → Looks o
  looks sound =
      record {
        dead = λ h e b fit. none h (shown_dead sound h (inconsistent (shown sound h)) e) fit.0 fit.2;
        consistent = λ h c e. let k = shown_known sound h (inconsistent (shown sound h)) c e in ap inconsistent k.1 ∙ k.0;
        settled = λ h c e. let k = shown_known sound h (inconsistent (shown sound h)) c e in subst (λ x. Refines x (known_with o (standing h))) (sym k.1) (least sound h).above;
        known = λ h c e b fit option value below says. let k = shown_known sound h (inconsistent (shown sound h)) c e in subst (λ d. has d.yes option ≡ value) fit.1 (has_known fit.0 fit.2.0 option value below (knows_up (fits_above sound h fit.0 fit.2) option value (ap (λ x. knows x option value) (sym k.1) ∙ says)));
        fits = λ h c e total. let k = shown_known sound h (inconsistent (shown sound h)) c e in (c, refl, (total, subst (λ x. Refines x (known_with o (standing h))) (sym k.1) (least sound h).above, subst (λ x. asked o x ≡ x) (sym k.1) (least sound h).stable.0));
      }
    where
      none : (h : History) → inconsistent (shown sound h) ≡ true → (a : Assignment) → Fits (asked o) (known_with o (standing h)) a → ⊥
      none h i a fit = both_ways (inconsistent a) (total_consistent a fit.0) (inconsistent_up (fits_above sound h a fit) i)

pub want_law : WantLaw
want_law o sound = (settles o, looks o sound)
