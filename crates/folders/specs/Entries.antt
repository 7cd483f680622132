-- The table of entries: what each replies, made of replies below, and which builds each allows, made of builds below.
use Rattle.std.specs.Prelude.{◌≡◌, ℕ, ◌+◌, ◌<◌, Bool, true, false, cond, not, ◌&&◌, ◌⊎◌}
use Rattle.assignment.specs.Knows.{has, knows}
use Rattle.assignment.specs.Lattice.{contradiction, equate, inconsistent, join, known_outside, meet, outside, same, total, Total, whole, within}
use Rattle.assignment.specs.Options.{options_in}
use Rattle.assignment.specs.declared.assignment.Assignment.{Assignment}
use Rattle.entries.specs.declared.entry.Entry.{Entry}
use Rattle.entries.specs.declared.entry.Entry.TheVariants.{Carry, Product, Either, Selection, Projection, Complement, None}
use Rattle.ruleset.specs.Fillings.{fills}
use Rattle.ruleset.specs.Listed.{Rule}

-- some filling of the hidden options makes a build that the rule below gives back
abbrev pub fits_below : ℕ → Rule → Assignment → Bool
fits_below hidden f a = fills f (options_in hidden) (outside hidden a)

-- what is known of hidden options stays as it was asked, and the rest is the reply below to the question without them
abbrev pub shown_reply : ℕ → Rule → Rule
shown_reply hidden f a = join (outside hidden (f (outside hidden a))) (within hidden a)

-- Once all shown options are known, a build below has to fit.
abbrev pub project : ℕ → Rule → Rule
project hidden f a =
    cond (inconsistent a) contradiction
    (cond (known_outside hidden a && not (fits_below hidden f a)) contradiction (shown_reply hidden f a))

-- An inconsistent question gets the contradiction, and so does a build that the rule below gives back. Any other question
-- comes back.
abbrev pub exclude : Rule → Rule
exclude f a = cond (inconsistent a) contradiction (cond (total a && same (f a) a) contradiction a)

-- the reply of an entry, from the replies of the rules below
abbrev pub entry_reply : Entry → (ℕ → Rule) → Rule
entry_reply (Carry r) below a = below r a
entry_reply (Product r s) below a = join (below r a) (below s a)
entry_reply (Either r s) below a = meet (whole (below r a)) (whole (below s a))
entry_reply (Selection r left right width) below a = equate left right width (below r a)
entry_reply (Projection r hidden) below a = project hidden (below r) a
entry_reply (Complement r) below a = exclude (below r) a
entry_reply None below a = contradiction

-- which builds the rules of a set allow
abbrev pub Allowed : Type 1
Allowed = ℕ → Assignment → Type 0

-- no value of the one option is known otherwise of the other; of a build, below 64, this is: both have the same value
abbrev pub SameAt : Assignment → ℕ → ℕ → Type 0
SameAt b o p = (v : Bool) → knows b o v ≡ true → knows b p (not v) ≡ false

abbrev pub PairsEqual : (left right width : ℕ) → Assignment → Type 0
PairsEqual left right width b = (i : ℕ) → i < width → SameAt b (left + i) (right + i)

abbrev pub AgreeOutside : ℕ → Assignment → Assignment → Type 0
AgreeOutside hidden d b = (o : ℕ) → o < 64 → has hidden o ≡ false → (v : Bool) → knows d o v ≡ knows b o v

-- the builds that an entry allows, from those that the rules below allow
abbrev pub entry_allows : Entry → Allowed → Assignment → Type 0
entry_allows (Carry r) below b = below r b
entry_allows (Product r s) below b = below r b × below s b
entry_allows (Either r s) below b = below r b ⊎ below s b
entry_allows (Selection r left right width) below b = below r b × PairsEqual left right width b
entry_allows (Projection r hidden) below b = (d : Assignment) × Total d × below r d × AgreeOutside hidden d b
entry_allows (Complement r) below b = below r b → ⊥
entry_allows None below b = ⊥
