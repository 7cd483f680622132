-- What a call comes to.
use Rattle.std.specs.Prelude.{◌≡◌, ℕ, Bool, true, false, ◌⊎◌, List, [], ◌∷◌, is_ok, Ok, Err, Result, MatchResult, ◌==◌, nat_lt}
use Rattle.entries.specs.Fields.{entry_checks}
use Rattle.entries.specs.declared.entry.Entry.TheVariants.{Projection}
use Rattle.refusals.specs.Checks.{Check, judged, when}
use Rattle.refusals.specs.declared.refusal.Refusal.{Refusal}
use Rattle.refusals.specs.declared.refusal.Refusal.TheVariants.{OutOfRange}
use Rattle.entries.specs.Accepts.{fields_for}
use Rattle.ruleset.specs.Listed.{Rule}
use Rattle.facade.specs.Questions.{answered}
use Rattle.facade.specs.declared.failure.Failure.{Failure}
use Rattle.facade.specs.declared.failure.Failure.TheVariants.{Refused, NoMemory}

-- no check holds
abbrev pub passes : {F : Type 0} → List (Check F) → Bool
passes cs = is_ok (judged cs (tt {0}))

-- the checks of the number of options that is told: 1 to 64
abbrev pub told : (options : ℕ) → List (Check Refusal)
told options = when (options == 0) OutOfRange ∷ when (nat_lt 64 options) OutOfRange ∷ []

-- a projection of the one rule below may hide these options, of so many
unfoldable pub hides : (options hidden : ℕ) → Bool
hides options hidden = passes (entry_checks options 1 (fields_for (Projection 0 hidden)))

-- the number that a call returns
abbrev pub code_of : Result (Unit {0}) Failure → ℕ
code_of (Ok done) = 0
code_of (Err Refused) = 1
code_of (Err NoMemory) = 2

-- What answering comes to, and the masks that it leaves: all questions are answered where what it was given is good, and
-- else none; nor is any where there is no memory, which is wanted only once the body was read.
abbrev pub Answered : (read good : Bool) → Rule → (before : List ℕ) → Result (Unit {0}) Failure → (after : List ℕ) → Type 0
Answered read good f before result after =
    MatchResult result (λ done. (good ≡ true) × (after ≡ answered f before))
    (λ failure. (failure ≡ Refused → good ≡ false) × (failure ≡ NoMemory → read ≡ true) × (after ≡ before))

-- the same with the number that the call returns
abbrev pub Outcome : (read good : Bool) → Rule → (before : List ℕ) → (returned : ℕ) → (after : List ℕ) → Type 0
Outcome read good f before returned after =
    ((returned ≡ 0) × (good ≡ true) × (after ≡ answered f before))
    ⊎ (((returned ≡ 1) × (good ≡ false) × (after ≡ before)) ⊎ ((returned ≡ 2) × (read ≡ true) × (after ≡ before)))
