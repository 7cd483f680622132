-- The fields of an entry: the codes of the ops, what the fields stand for, and the checks on them in their order.
use Rattle.std.specs.Prelude.{ℕ, ◌+◌, ◌%◌, ◌^◌, Bool, false, cond, ◌&&◌, ◌||◌, List, [], ◌∷◌, ◌==◌, count_ones, nat_le, nat_lt}
use Rattle.refusals.specs.Checks.{Check, when}
use Rattle.refusals.specs.declared.refusal.Refusal.{Refusal}
use Rattle.refusals.specs.declared.refusal.Refusal.TheVariants.{OutOfRange, NoSuchRule, BeyondOptions, Conflict, TooManyHidden}
use Rattle.entries.specs.declared.entry.Entry.{Entry}
use Rattle.entries.specs.declared.entry.Entry.TheVariants as entry
use Rattle.entries.specs.declared.fields.EntryFields.{EntryFields}

-- the codes of the ops
abbrev pub carry_op : ℕ
carry_op = 0

abbrev pub product_op : ℕ
product_op = 1

abbrev pub either_op : ℕ
either_op = 2

abbrev pub selection_op : ℕ
selection_op = 3

abbrev pub projection_op : ℕ
projection_op = 4

abbrev pub complement_op : ℕ
complement_op = 5

abbrev pub none_op : ℕ
none_op = 6

-- a choice by the op; a code above all of them counts as none, which the check of the op rules out before
abbrev pub by_op : {A : Type 0} → ℕ → (carry product either selection projection complement none : A) → A
by_op op c p e s j m n =
    cond (op == carry_op) c
    (cond (op == product_op) p
    (cond (op == either_op) e
    (cond (op == selection_op) s (cond (op == projection_op) j (cond (op == complement_op) m n)))))

-- the entry that fields stand for; only what passes the checks is ever kept
abbrev pub entry_of : EntryFields → Entry
entry_of f =
    by_op f.op (entry.Carry f.first) (entry.Product f.first f.second) (entry.Either f.first f.second)
    (entry.Selection f.first f.second f.third (f.word % 256)) (entry.Projection f.first f.word)
    (entry.Complement f.first) entry.None

-- a field is not 0
abbrev is_set : ℕ → Bool
is_set x = nat_lt 0 x

-- a field is set that the op does not use
abbrev pub sets_unused : EntryFields → Bool
sets_unused f =
    let all_but_first : Bool = is_set f.second || (is_set f.third || is_set f.word) in
    let last_two : Bool = is_set f.third || is_set f.word in
    by_op f.op all_but_first last_two last_two false (is_set f.second || is_set f.third) all_but_first
    (is_set f.first || all_but_first)

-- a rule is named at or above the count below
abbrev pub unknown_rule : ℕ → EntryFields → Bool
unknown_rule below f =
    let first_unknown : Bool = nat_le below f.first in
    let either_unknown : Bool = nat_le below f.first || nat_le below f.second in
    by_op f.op first_unknown either_unknown either_unknown first_unknown first_unknown first_unknown false

-- a selection's width is not 1 to 32
abbrev pub bad_width : EntryFields → Bool
bad_width f = by_op f.op false false false (f.word == 0 || nat_lt 32 f.word) false false false

-- a selection's range ends past the options, or a projection hides an option that is none of them
abbrev pub beyond : ℕ → EntryFields → Bool
beyond n f =
    by_op f.op false false false (nat_lt n (f.second + f.word) || nat_lt n (f.third + f.word)) (nat_le (2 ^ n) f.word) false
    false

-- a selection's two ranges share an option
abbrev pub overlap : EntryFields → Bool
overlap f =
    by_op f.op false false false (nat_lt f.second (f.third + f.word) && nat_lt f.third (f.second + f.word)) false false
    false

-- a projection hides more than 16 options
abbrev pub hides_many : EntryFields → Bool
hides_many f = by_op f.op false false false false (nat_lt 16 (count_ones f.word)) false false

-- n options, over a count of rules below
abbrev pub entry_checks : ℕ → ℕ → EntryFields → List (Check Refusal)
entry_checks n below f =
    when (nat_lt none_op f.op) OutOfRange ∷ when (sets_unused f) OutOfRange ∷ when (unknown_rule below f) NoSuchRule
    ∷ when (bad_width f) OutOfRange ∷ when (beyond n f) BeyondOptions ∷ when (overlap f) Conflict
    ∷ when (hides_many f) TooManyHidden ∷ []
