-- Two sets of rules as one: the rules of the first, and after them those of the second.
use Rattle.std.specs.Prelude.{◌≡◌, ℕ, ◌+◌, ◌-◌, ◌<◌, ◌≤◌, min, Bool, true, false, cond, nat_lt}
use Rattle.std.proofs.Common.{arith, ap}
use Rattle.std.proofs.lemmas.Bool.{le-ltb}
use Rattle.assignment.specs.Lattice.{contradiction}
use Rattle.assignment.specs.declared.assignment.Assignment.{Assignment}
use Rattle.ruleset.specs.Listed.{nothing, nothing_lawful, Rule}
use Rattle.ruleset.specs.Meaning.{extensive_keeps, Lawful, lawful_rule, LawfulRule, Meaning}

-- how many rules both have, up to 64
abbrev pub count_both : Meaning → Meaning → ℕ
count_both m n = min 64 (m.count + n.count)

-- rule k of the first, or where the first has fewer, the second's, counted from the first's count on
abbrev pub rule_of : Meaning → Meaning → ℕ → Rule
rule_of m n k = cond (nat_lt k m.count) (m.reply k) (n.reply (k - m.count))

abbrev pub side_by_side : Meaning → Meaning → Meaning
side_by_side m n =
    record { count = count_both m n; reply = λ k. cond (nat_lt k (count_both m n)) (rule_of m n k) nothing }

pub side_by_side_lawful : {m n : Meaning} → Lawful m → Lawful n → Lawful (side_by_side m n)
side_by_side_lawful {m} {n} first second =
    record {
      few = omega arith;
      absent = λ k a h. ap (λ b. cond b (rule_of m n k) nothing a) (le-ltb k (count_both m n) h);
      extensive = λ k a. (rule k).extensive a;
      monotone = λ k r. (rule k).monotone r;
      keeps_builds = λ k b t. extensive_keeps ((side_by_side m n).reply k b) b ((rule k).extensive b) t;
    }
  where
    rule : (k : ℕ) → LawfulRule ((side_by_side m n).reply k)
    rule k = go (nat_lt k (count_both m n)) (nat_lt k m.count)
      where
        go : (p q : Bool) → LawfulRule (cond p (cond q (m.reply k) (n.reply (k - m.count))) nothing)
        go true true = lawful_rule first k
        go true false = lawful_rule second (k - m.count)
        go false q = nothing_lawful

-- what each rule replies
pub record Replies (m n both : Meaning) : Type 0 where
  pub few : both.count ≡ min 64 (m.count + n.count)
  pub first : (k : ℕ) (a : Assignment) → k < 64 → k < m.count → both.reply k a ≡ m.reply k a
  pub second : (k : ℕ) (a : Assignment) → m.count + k < 64 → k < n.count → both.reply (m.count + k) a ≡ n.reply k a
  pub past : (k : ℕ) (a : Assignment) → both.count ≤ k → both.reply k a ≡ contradiction

abbrev pub SideBySideReplies : Type 0
SideBySideReplies = (m n : Meaning) → Replies m n (side_by_side m n)
