-- A set of rules given as a list of what each replies.
use Rattle.std.specs.Prelude.{◌≡◌, ℕ, zero, suc, ◌<◌, ◌≤◌, min, Bool, true, false, cond, ◌⊎◌, List, [], ◌∷◌, length, nat_lt, slice_index_or}
use Rattle.std.proofs.Common.{arith, inl, inr, ap, ◌∙◌}
use Rattle.std.proofs.lemmas.List.{get_or_past}
use Rattle.std.proofs.lemmas.Bool.{cases_lt, le-ltb, lt-ltb}
use Rattle.assignment.specs.Lattice.{contradiction}
use Rattle.assignment.specs.Laws.{contradiction_top, refines_refl}
use Rattle.assignment.specs.declared.assignment.Assignment.{Assignment}
use Rattle.ruleset.specs.Meaning.{extensive_keeps, Lawful, LawfulRule, Meaning}

-- what a rule replies to an assignment
abbrev pub Rule : Type 0
Rule = Assignment → Assignment

-- the rule that allows nothing
abbrev pub nothing : Rule
nothing a = contradiction

-- rule k is the list's k-th, of the first 64
abbrev pub listed : List Rule → Meaning
listed fs =
    record { count = min 64 (length fs); reply = λ k. cond (nat_lt k 64) (slice_index_or fs k nothing) nothing }

abbrev pub EachLawful : List Rule → Type 0
EachLawful [] = Unit {0}
EachLawful (f ∷ fs) = LawfulRule f × EachLawful fs

pub nothing_lawful : LawfulRule nothing
nothing_lawful =
    record { extensive = λ a. contradiction_top a; monotone = λ r. refines_refl contradiction }

lawful_at : (fs : List Rule) → EachLawful fs → (k : ℕ) → LawfulRule (slice_index_or fs k nothing)
lawful_at [] each k = nothing_lawful
lawful_at (f ∷ fs) each zero = each.0
lawful_at (f ∷ fs) each (suc k) = lawful_at fs each.1 k

pub listed_lawful : (fs : List Rule) → EachLawful fs → Lawful (listed fs)
listed_lawful fs each =
    record {
      few = omega arith;
      absent = λ k a h. ap (λ f. f a) (gone k h (cases_lt k 64));
      extensive = λ k a. (rule k).extensive a;
      monotone = λ k r. (rule k).monotone r;
      keeps_builds = λ k b t. extensive_keeps ((listed fs).reply k b) b ((rule k).extensive b) t;
    }
  where
    rule : (k : ℕ) → LawfulRule ((listed fs).reply k)
    rule k = go (nat_lt k 64)
      where
        go : (b : Bool) → LawfulRule (cond b (slice_index_or fs k nothing) nothing)
        go true = lawful_at fs each k
        go false = nothing_lawful

    gone : (k : ℕ) → min 64 (length fs) ≤ k → (k < 64) ⊎ (64 ≤ k) → (listed fs).reply k ≡ nothing
    gone k h (inl l) =
        ap (λ b. cond b (slice_index_or fs k nothing) nothing) (lt-ltb k 64 l) ∙ get_or_past fs k nothing (omega arith)
    gone k h (inr l) = ap (λ b. cond b (slice_index_or fs k nothing) nothing) (le-ltb k 64 l)
