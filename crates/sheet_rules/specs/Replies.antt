-- A set of rules of which each is given by what it replies to.
use Rattle.std.specs.Prelude.{List, [], ◌∷◌, map}
use Rattle.ruleset.specs.Listed.{EachLawful, listed, listed_lawful, Rule}
use Rattle.ruleset.specs.Meaning.{Lawful, LawfulRule, Meaning}

-- rule k is what the k-th of a list replies
abbrev pub rules_of : {X : Type 0} → (X → Rule) → List X → Meaning
rules_of reply xs = listed (map reply xs)

each_lawful : {X : Type 0} (reply : X → Rule) → ((x : X) → LawfulRule (reply x)) → (xs : List X) → EachLawful (map reply xs)
each_lawful reply lawful [] = tt
each_lawful reply lawful (x ∷ xs) = (lawful x, each_lawful reply lawful xs)

-- such rules keep a rule set's promises if each keeps a rule's
pub rules_lawful : {X : Type 0} (reply : X → Rule) → ((x : X) → LawfulRule (reply x)) → (xs : List X) → Lawful (rules_of reply xs)
rules_lawful reply lawful xs = listed_lawful (map reply xs) (each_lawful reply lawful xs)
