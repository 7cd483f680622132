-- The records of a file, and the checks of a record's head in their order. A record is given by the bytes from its first on.
use Rattle.std.specs.Prelude.{ℕ, ◌+◌, Bool, false, List, [], ◌∷◌, length, take, drop, nat_le, nat_lt}
use Rattle.refusals.specs.Checks.{Check, when}
use Rattle.refusals.specs.declared.fault.RecordFault.{RecordFault}
use Rattle.refusals.specs.declared.refusal.Refusal.{Refusal}
use Rattle.refusals.specs.declared.refusal.Refusal.TheVariants.{Cut, UnknownKind, OutOfTurn, TooMany}
use Rattle.ruleformat.specs.Bytes.{two, pieces}
use Rattle.ruleformat.specs.Kinds.{by_kind, unknown, out_of_turn}

-- how long the body is, the kind, and the body
abbrev pub body_size : List ℕ → ℕ
body_size rest = two rest 0

abbrev pub kind : List ℕ → ℕ
kind rest = two rest 2

abbrev pub body : List ℕ → List ℕ
body rest = take (body_size rest) (drop 4 rest)

-- four bytes of head, then the body
abbrev pub record_size : List ℕ → ℕ
record_size rest = 4 + body_size rest

abbrev pub records : List ℕ → List (List ℕ)
records bytes = pieces record_size 0 bytes

abbrev pub at : Refusal → ℕ → RecordFault
at r p = record { refusal = r; place = p }

-- a 33rd sheet or a fifth folder
abbrev pub one_too_many : ℕ → ℕ → ℕ → Bool
one_too_many sheets folders k = by_kind k false (nat_le 32 sheets) (nat_le 32 sheets) (nat_le 4 folders) false

-- at a place, after a record of the kind before (0 for none) and after so many sheets and folders
abbrev pub head_checks : (before sheets folders place : ℕ) → List ℕ → List (Check RecordFault)
head_checks before sheets folders place rest =
    when (nat_lt (length rest) 4) (at Cut place) ∷ when (unknown (kind rest)) (at UnknownKind place)
    ∷ when (out_of_turn before (kind rest)) (at OutOfTurn place)
    ∷ when (one_too_many sheets folders (kind rest)) (at TooMany place)
    ∷ when (nat_lt (length rest) (record_size rest)) (at Cut place) ∷ []
