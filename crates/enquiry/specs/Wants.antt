-- What settling, taking back and looking come to: which builds fit then, and what a look says of those that fit.
use Rattle.std.specs.Prelude.{◌≡◌, ◌≢◌, ℕ, ◌<◌, Bool, true, false, ◌∷◌, ◌↔◌}
use Rattle.assignment.specs.Knows.{has, knows}
use Rattle.assignment.specs.Lattice.{inconsistent, Refines, Total}
use Rattle.assignment.specs.declared.assignment.Assignment.{Assignment}
use Rattle.calls.specs.declared.call.Call.{Call}
use Rattle.calls.specs.declared.call.Call.TheVariants.{Settle, Back, Again, Look}
use Rattle.calls.specs.declared.reply.Reply.TheVariants.{Done, Known, Dead}
use Rattle.enquiry.specs.Fitting.{Answer, Fitting, known_with, Opening}
use Rattle.enquiry.specs.Histories.{History, Said, standing}
use Rattle.enquiry.specs.RunLaw.{Sound}
use Rattle.listing.specs.Moves.{build_of}
use Rattle.listing.specs.declared.build.Build.{Build}

-- a call that was done
abbrev pub done : Call → Said
done call = record { call = call; reply = Done }

-- A settle leaves the builds that have the value. A back undoes the newest settlement that stands. Any other call
-- leaves what fits, and so does one that is refused.
pub record Settles (o : Opening) : Type 0 where
  pub settled : (h : History) (option : ℕ) (value : Bool) → option < 64 → (b : Build) → Fitting o (done (Settle option value) ∷ h) b ↔ (Fitting o h b × (has b.yes option ≡ value))
  pub taken_back : (h g : History) (option : ℕ) (value : Bool) → standing g ≡ standing (done (Settle option value) ∷ h) → standing (done Back ∷ g) ≡ standing h
  pub begun_again : (h : History) → standing (done Again ∷ h) ≡ standing h
  pub not_done : (h : History) (said : Said) → said.reply ≢ Done → standing (said ∷ h) ≡ standing h

-- A dead look says that no build fits. Any other is consistent and has all that is settled; what it has, each build has
-- that fits; and if it is a build, that build fits.
pub record Looks (o : Opening) : Type 0 where
  pub dead : (h : History) → Answer o h Look Dead → (b : Build) → Fitting o h b → ⊥
  pub consistent : (h : History) (c : Assignment) → Answer o h Look (Known c) → inconsistent c ≡ false
  pub settled : (h : History) (c : Assignment) → Answer o h Look (Known c) → Refines c (known_with o (standing h))
  pub known : (h : History) (c : Assignment) → Answer o h Look (Known c) → (b : Build) → Fitting o h b → (option : ℕ) (value : Bool) → option < 64 → knows c option value ≡ true → has b.yes option ≡ value
  pub fits : (h : History) (c : Assignment) → Answer o h Look (Known c) → Total c → Fitting o h (build_of c)

abbrev pub WantLaw : Type 0
WantLaw = (o : Opening) → Sound o → Settles o × Looks o
