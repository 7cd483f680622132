-- The checks on what an enquiry is opened with.
use Rattle.std.specs.Prelude.{◌≡◌, ℕ, ◌^◌, ◌<◌, ◌≤◌, false, Result, List, [], ◌∷◌, ◌==◌, nat_le, nat_lt}
use Rattle.assignment.specs.Knows.{known}
use Rattle.assignment.specs.Lattice.{inconsistent}
use Rattle.assignment.specs.declared.assignment.Assignment.{Assignment}
use Rattle.refusals.specs.Checks.{Check, judged, when}
use Rattle.refusals.specs.declared.refusal.Refusal.{Refusal}
use Rattle.refusals.specs.declared.refusal.Refusal.TheVariants.{BeyondOptions, Conflict, NoSuchRule, OutOfRange}

-- the number of options, then the start, then the rule
abbrev pub opening_checks : (options : ℕ) → Assignment → (rule count : ℕ) → List (Check Refusal)
opening_checks options start rule count =
    when (options == 0) OutOfRange ∷ when (nat_lt 64 options) OutOfRange
    ∷ when (nat_le (2 ^ options) start.yes) BeyondOptions ∷ when (nat_le (2 ^ options) start.no) BeyondOptions
    ∷ when (inconsistent start) Conflict ∷ when (nat_le count rule) NoSuchRule ∷ []

abbrev pub opening_verdict : (options : ℕ) → Assignment → (rule count : ℕ) → Result (Unit {0}) Refusal
opening_verdict options start rule count = judged (opening_checks options start rule count) tt

-- What an enquiry opens with: one option to 64, a consistent start with no value of an option that is not there, and a rule
-- that is there.
pub record Opens (options : ℕ) (start : Assignment) (rule count : ℕ) : Type 0 where
  pub some : 1 ≤ options
  pub few : options ≤ 64
  pub within : (o : ℕ) → options ≤ o → known start o ≡ false
  pub consistent : inconsistent start ≡ false
  pub there : rule < count
