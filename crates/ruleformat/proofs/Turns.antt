-- The turns of records: which kinds are known, and which may follow which.
use Rattle.std.proofs.Common.{◌≡◌, ℕ, ◌≤◌, false, arith}
use Rattle.std.proofs.lemmas.Bool.Decides.{nat_tests}
use Rattle.ruleformat.specs.Kinds.{out_of_turn, unknown}

pub known_kind : (j : ℕ) → unknown j ≡ false → (1 ≤ j) × (j ≤ 5)
known_kind j h = (grind (arith, nat_tests), grind (arith, nat_tests))

-- kind j follows kind k
pub follows : (k j : ℕ) → 1 ≤ k → out_of_turn k j ≡ false → (k ≡ 5 → ⊥) × (j ≡ 1 → ⊥) × (k ≤ j)
follows k j l h = (λ e. grind (arith, nat_tests), λ e. grind (arith, nat_tests), grind (arith, nat_tests))

-- no kind goes down, and none follows a question
pub may_follow : (before k : ℕ) → 1 ≤ before → before ≤ 4 → 2 ≤ k → before ≤ k → out_of_turn before k ≡ false
may_follow before k some few later up = grind (arith, nat_tests)
