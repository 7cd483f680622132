-- What the order by precision is, said option by option, and where `join` and `meet` stand in it.
use Rattle.std.specs.Prelude.{◌≡◌, ℕ, ◌<◌, Bool, true, ◌⊎◌, ◌↔◌}
use Rattle.assignment.specs.Knows.{knows}
use Rattle.assignment.specs.Lattice.{contradiction, inconsistent, join, meet, Refines, Total, unknown}
use Rattle.assignment.specs.declared.assignment.Assignment.{Assignment}

-- the one refines the other exactly if it knows each value that the other knows
abbrev pub RefinesKnown : Type 0
RefinesKnown =
    (b a : Assignment) → Refines b a ↔ ((o : ℕ) (v : Bool) → o < 64 → knows a o v ≡ true → knows b o v ≡ true)

-- refining is an order
pub record PrecisionOrder : Type 0 where
  pub itself : (a : Assignment) → Refines a a
  pub chained : (c b a : Assignment) → Refines c b → Refines b a → Refines c a
  pub antisymmetric : (b a : Assignment) → Refines b a → Refines a b → b ≡ a

-- of all that refine both, the join is the least precise
pub record JoinLeast : Type 0 where
  pub left : (a b : Assignment) → Refines (join a b) a
  pub right : (a b : Assignment) → Refines (join a b) b
  pub least : (a b c : Assignment) → Refines c a → Refines c b → Refines c (join a b)

-- of all that both refine, the meet is the most precise
pub record MeetGreatest : Type 0 where
  pub left : (a b : Assignment) → Refines a (meet a b)
  pub right : (a b : Assignment) → Refines b (meet a b)
  pub greatest : (a b c : Assignment) → Refines a c → Refines b c → Refines (meet a b) c

-- everything is between nothing known and the contradiction
abbrev pub BetweenEnds : Type 0
BetweenEnds = (a : Assignment) → Refines a unknown × Refines contradiction a

-- what refines a build is that build, or inconsistent
abbrev pub AboveBuild : Type 0
AboveBuild = (b a : Assignment) → Total a → Refines b a → (b ≡ a) ⊎ (inconsistent b ≡ true)
