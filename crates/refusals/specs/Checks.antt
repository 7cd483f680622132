-- Judging by a list of checks in their order: the first that holds decides.
use Rattle.std.specs.Prelude.{◌≡◌, Bool, true, false, cond, List, [], ◌∷◌, Ok, Err, Result}

-- a test, and the fault that is answered where it holds
pub record Check (F : Type 0) : Type 0 where
  pub holds : Bool
  pub fault : F

abbrev pub when : {F : Type 0} → Bool → F → Check F
when b f = record { holds = b; fault = f }

-- the fault of the first check that holds, or the value where none does
abbrev pub judged : {A F : Type 0} → List (Check F) → A → Result A F
judged [] a = Ok a
judged (c ∷ cs) a = cond c.holds (Err c.fault) (judged cs a)

-- the same checks, with each fault put into a wider one
abbrev pub within : {F G : Type 0} → (F → G) → List (Check F) → List (Check G)
within w [] = []
within w (c ∷ cs) = when c.holds (w c.fault) ∷ within w cs

-- the first check of a list that holds has this fault
pub data First {F : Type 0} : List (Check F) → F → Type 0 where
  here : {c : Check F} {cs : List (Check F)} → c.holds ≡ true → First (c ∷ cs) c.fault
  later : {c : Check F} {cs : List (Check F)} {f : F} → c.holds ≡ false → First cs f → First (c ∷ cs) f

-- a result by what its value stands for
abbrev pub seen : {A B E : Type 0} → (A → B) → Result A E → Result B E
seen f (Ok x) = Ok (f x)
seen f (Err e) = Err e
