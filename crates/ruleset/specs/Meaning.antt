-- What a set of rules means, and the promises that it keeps.
use Rattle.std.specs.Prelude.{◌≡◌, ℕ, ◌≤◌, Bool, true, false, ◌⊎◌, refl}
use Rattle.std.proofs.Common.{inl, inr}
use Rattle.assignment.specs.Lattice.{contradiction, inconsistent, Refines, Total}
use Rattle.assignment.specs.Laws.{total_above}
use Rattle.assignment.specs.declared.assignment.Assignment.{Assignment}

-- how many rules there are, and what each replies to an assignment
pub record Meaning : Type 0 where
  pub count : ℕ
  pub reply : ℕ → Assignment → Assignment

-- The promises. A reply is at least as precise as the question, and a more precise question gets a reply that is at least
-- as precise. A build comes back unchanged or inconsistent. A rule that is not there answers the contradiction.
pub record Lawful (m : Meaning) : Type 0 where
  pub few : m.count ≤ 64
  pub absent : (k : ℕ) (a : Assignment) → m.count ≤ k → m.reply k a ≡ contradiction
  pub extensive : (k : ℕ) (a : Assignment) → Refines (m.reply k a) a
  pub monotone : (k : ℕ) {b a : Assignment} → Refines b a → Refines (m.reply k b) (m.reply k a)
  pub keeps_builds : (k : ℕ) (b : Assignment) → Total b → (m.reply k b ≡ b) ⊎ (inconsistent (m.reply k b) ≡ true)

-- the promises of one rule on its own
pub record LawfulRule (f : Assignment → Assignment) : Type 0 where
  pub extensive : (a : Assignment) → Refines (f a) a
  pub monotone : {b a : Assignment} → Refines b a → Refines (f b) (f a)

pub lawful_rule : {m : Meaning} → Lawful m → (k : ℕ) → LawfulRule (m.reply k)
lawful_rule l k = record { extensive = l.extensive k; monotone = l.monotone k }

-- a rule allows exactly the builds that it gives back unchanged
abbrev pub Allows : Meaning → ℕ → Assignment → Type 0
Allows m k b = m.reply k b ≡ b

-- the promise on builds follows from the one on precision
pub extensive_keeps : (r b : Assignment) → Refines r b → Total b → (r ≡ b) ⊎ (inconsistent r ≡ true)
extensive_keeps r b above t = go (inconsistent r) refl
  where
    go : (i : Bool) → inconsistent r ≡ i → (r ≡ b) ⊎ (inconsistent r ≡ true)
    go true e = inr e
    go false e = inl (total_above t above e)
