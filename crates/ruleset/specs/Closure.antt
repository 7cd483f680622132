-- The closure of a rule: what it makes of an assignment when it is asked until its reply adds nothing.
use Rattle.std.specs.Prelude.{◌≡◌, ℕ, zero, suc, true, false, cond, ◌≢◌}
use Rattle.assignment.specs.Lattice.{contradiction, inconsistent, Refines, same}
use Rattle.assignment.specs.declared.assignment.Assignment.{Assignment}
use Rattle.ruleset.specs.Listed.{Rule}
use Rattle.ruleset.specs.Meaning.{LawfulRule}

-- at most so many questions; where they do not suffice, nothing consistent is left to reply
unfoldable pub rounds : ℕ → Rule → Rule
rounds zero f a = contradiction
rounds (suc n) f a = cond (inconsistent (f a)) contradiction (cond (same (f a) a) a (rounds n f (f a)))

-- each reply but the last knows of one option more, and there are 64
unfoldable pub closure : Rule → Rule
closure f a = rounds 65 f a

-- the rule adds nothing, and an inconsistent assignment is the contradiction
abbrev pub Stable : Rule → Assignment → Type 0
Stable f c = (f c ≡ c) × (inconsistent c ≡ true → c ≡ contradiction)

-- c is the least precise stable assignment that refines a
pub record Least (f : Rule) (a c : Assignment) : Type 0 where
  pub stable : Stable f c
  pub above : Refines c a
  pub least : (d : Assignment) → Stable f d → Refines d a → Refines d c

-- asking in rounds, from a, ends at c
pub data Asked (f : Rule) : Assignment → Assignment → Type 0 where
  dead : {a : Assignment} → inconsistent (f a) ≡ true → Asked f a contradiction
  fixed : {a : Assignment} → inconsistent (f a) ≡ false → f a ≡ a → Asked f a a
  again : {a c : Assignment} → inconsistent (f a) ≡ false → (f a ≢ a) → Asked f (f a) c → Asked f a c

-- the closure is the least stable assignment above the question
abbrev pub ClosureLeast : Type 0
ClosureLeast = (f : Rule) → LawfulRule f → (a : Assignment) → Least f a (closure f a)

-- it is what asking in rounds ends at
abbrev pub ClosureAsked : Type 0
ClosureAsked = (f : Rule) → LawfulRule f → (a : Assignment) → Asked f a (closure f a)

-- and asking in rounds ends at one assignment
abbrev pub AskedOnce : Type 0
AskedOnce = (f : Rule) (a c d : Assignment) → Asked f a c → Asked f a d → c ≡ d

-- a more precise question to a rule that replies more precisely has a more precise closure
abbrev pub ClosureGrows : Type 0
ClosureGrows = (f g : Rule) → LawfulRule f → LawfulRule g → ((x : Assignment) → Refines (g x) (f x)) → (b a : Assignment) → Refines b a → Refines (closure g b) (closure f a)
