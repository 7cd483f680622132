-- What an assignment knows of one option.
use Rattle.std.specs.Prelude.{◌≡◌, ℕ, ◌/◌, ◌%◌, ◌^◌, ◌<◌, ◌≤◌, Bool, true, false, ◌||◌, ◌⊎◌, ◌==◌}
use Rattle.assignment.specs.declared.assignment.Assignment.{Assignment}
use Rattle.assignment.specs.declared.value.Value.{Value}
use Rattle.assignment.specs.declared.value.Value.TheVariants.{Unknown, Yes, No, Inconsistent}

-- whether bit i of a mask is set
abbrev pub has : ℕ → ℕ → Bool
has mask i = mask / 2 ^ i % 2 == 1

-- some bit from `first` on is set
abbrev pub HasFrom : (first mask : ℕ) → Type 0
HasFrom first mask = (i : ℕ) × (first ≤ i) × (has mask i ≡ true)

-- the value that two answers, known yes and known no, make together
abbrev pub value_from : Bool → Bool → Value
value_from true true = Inconsistent
value_from true false = Yes
value_from false true = No
value_from false false = Unknown

abbrev pub value_of : Assignment → ℕ → Value
value_of a i = value_from (has a.yes i) (has a.no i)

-- whether option i is known to have a value, true for yes and false for no
unfoldable pub knows : Assignment → ℕ → Bool → Bool
knows a i true = has a.yes i
knows a i false = has a.no i

-- whether anything is known of option i
abbrev pub known : Assignment → ℕ → Bool
known a i = knows a i true || knows a i false

-- a build: each option is yes or no
abbrev pub Build : Assignment → Type 0
Build a = (o : ℕ) → o < 64 → (value_of a o ≡ Yes) ⊎ (value_of a o ≡ No)

-- of each option that is not in the mask something is known
abbrev pub KnownOutside : ℕ → Assignment → Type 0
KnownOutside hidden a = (o : ℕ) → o < 64 → has hidden o ≡ false → known a o ≡ true

-- some option is known both yes and no
abbrev pub KnownBothWays : Assignment → Type 0
KnownBothWays a = (o : ℕ) × (o < 64) × (knows a o true ≡ true) × (knows a o false ≡ true)
