-- Rules that add something known once an option is known yes, and add it to inconsistent questions too.
use Rattle.std.specs.Prelude.{◌≡◌, ℕ, Bool, true, false, cond, [], ◌∷◌, refl}
use Rattle.std.proofs.lemmas.Bool.{both_ways}
use Rattle.assignment.specs.Knows.{knows}
use Rattle.assignment.specs.Lattice.{join, Refines}
use Rattle.assignment.specs.Laws.{join_left, join_mono, knows_up, refines_refl, refines_trans}
use Rattle.assignment.specs.declared.assignment.Assignment.{Assignment}
use Rattle.ruleset.specs.Listed.{listed, listed_lawful, Rule}
use Rattle.ruleset.specs.Meaning.{Lawful, LawfulRule, Meaning}

-- what is added once the option is known yes
abbrev pub step : ℕ → Assignment → Rule
step option added a = cond (knows a option true) (join a added) a

step_lawful : (option : ℕ) (added : Assignment) → LawfulRule (step option added)
step_lawful option added =
    record { extensive = λ a. above a (knows a option true); monotone = λ {b} {a} r. grows r (knows a option true) (knows b option true) refl refl }
  where
    above : (a : Assignment) (c : Bool) → Refines (cond c (join a added) a) a
    above a true = join_left a added
    above a false = refines_refl a

    grows : {b a : Assignment} → Refines b a → (c d : Bool) → knows a option true ≡ c → knows b option true ≡ d → Refines (cond d (join b added) b) (cond c (join a added) a)
    grows r true true e f = join_mono r (refines_refl added)
    grows {b} {a} r true false e f = absurd (both_ways (knows b option true) f (knows_up r option true e))
    grows {b} {a} r false true e f = refines_trans (join_left b added) r
    grows r false false e f = r

-- two such rules
abbrev pub two_steps : (o : ℕ) (a : Assignment) (p : ℕ) (b : Assignment) → Meaning
two_steps o a p b = listed (step o a ∷ step p b ∷ [])

pub two_steps_lawful : (o : ℕ) (a : Assignment) (p : ℕ) (b : Assignment) → Lawful (two_steps o a p b)
two_steps_lawful o a p b =
    listed_lawful (step o a ∷ step p b ∷ []) (step_lawful o a, (step_lawful p b, tt))
