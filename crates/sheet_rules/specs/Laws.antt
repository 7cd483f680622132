-- What sheets allow and what they add, with no word of replies on the other side.
use Rattle.std.specs.Prelude.{◌≡◌, ℕ, ◌<◌, ◌≤◌, min, Bool, true, false, not, ◌⊎◌, List, [], ◌∷◌, length, slice_index, slice_index_or}
use mathlib.Core.List.{Memᴰ}
use Rattle.assignment.specs.Knows.{has, knows}
use Rattle.assignment.specs.Lattice.{contradiction, inconsistent, Total}
use Rattle.assignment.specs.declared.assignment.Assignment.{Assignment}
use Rattle.ruleformat.specs.Contents.{Table, Wanted}
use Rattle.ruleformat.specs.WellFormed.{TableFits}
use Rattle.ruleset.specs.Listed.{Rule}
use Rattle.ruleset.specs.Meaning.{Meaning}
use Rattle.sheet_rules.specs.Agreement.{agrees}
use Rattle.sheet_rules.specs.ClauseReply.{clauses_reply}
use Rattle.sheet_rules.specs.Lost.{left, lost}
use Rattle.sheet_rules.specs.RuleSets.{rules_of_clauses, rules_of_tables}
use Rattle.sheet_rules.specs.TableReply.{table_reply}

-- some row agrees
abbrev pub TableAllows : Table → Assignment → Type 0
TableAllows t b = (row : ℕ) × Memᴰ row t.rows × (agrees t.columns row b ≡ true)

-- the option is some column, in which all rows that agree have the value
abbrev pub TableForces : Table → Assignment → ℕ → Bool → Type 0
TableForces t a o v =
    (i : ℕ) × (i < length t.columns) × (slice_index t.columns i ≡ o)
    × ((row : ℕ) → Memᴰ row t.rows → agrees t.columns row a ≡ true → has row i ≡ v)

-- each clause has a wanted value that is not lost
abbrev pub ClausesAllow : List (List Wanted) → Assignment → Type 0
ClausesAllow cs b = (ws : List Wanted) → Memᴰ ws cs → (w : Wanted) × Memᴰ w ws × (lost b w ≡ false)

-- some clause has nothing left but the option with the value
abbrev pub ClausesForce : List (List Wanted) → Assignment → ℕ → Bool → Type 0
ClausesForce cs a o v =
    (ws : List Wanted) × Memᴰ ws cs × (left a ws ≡ record { option = o; negated = not v } ∷ [])

-- a row agrees exactly if no column is known otherwise than the row says
abbrev pub RowAgrees : Type 0
RowAgrees =
    (cs : List ℕ) (row : ℕ) (a : Assignment)
    → (agrees cs row a ≡ true → (i : ℕ) → i < length cs → knows a (slice_index cs i) (not (has row i)) ≡ false)
    × (((i : ℕ) → i < length cs → knows a (slice_index cs i) (not (has row i)) ≡ false) → agrees cs row a ≡ true)

-- a build comes back unchanged from a table exactly if some row agrees with it
abbrev pub TableKeepsAllowed : Type 0
TableKeepsAllowed =
    (t : Table) (b : Assignment) → Total b → (table_reply t b ≡ b → TableAllows t b) × (TableAllows t b → table_reply t b ≡ b)

-- what a table adds where some row agrees
abbrev pub TableAdds : Type 0
TableAdds =
    (t : Table) (a : Assignment) → inconsistent a ≡ false → TableAllows t a → (o : ℕ) (v : Bool) → o < 64
    → (knows (table_reply t a) o v ≡ true → (knows a o v ≡ true) ⊎ TableForces t a o v)
    × ((knows a o v ≡ true) ⊎ TableForces t a o v → knows (table_reply t a) o v ≡ true)

-- a table that a file may hold replies the contradiction or something consistent
abbrev pub TableConsistent : Type 0
TableConsistent =
    (n : ℕ) (t : Table) → TableFits n t → (a : Assignment) → (table_reply t a ≡ contradiction) ⊎ (inconsistent (table_reply t a) ≡ false)

-- a build comes back unchanged from clauses exactly if each has a value that is not lost
abbrev pub ClausesKeepAllowed : Type 0
ClausesKeepAllowed =
    (cs : List (List Wanted)) (b : Assignment) → Total b
    → (clauses_reply cs b ≡ b → ClausesAllow cs b) × (ClausesAllow cs b → clauses_reply cs b ≡ b)

-- what clauses add where each has a value left
abbrev pub ClausesAdd : Type 0
ClausesAdd =
    (cs : List (List Wanted)) (a : Assignment) → inconsistent a ≡ false → ClausesAllow cs a → (o : ℕ) (v : Bool) → o < 64
    → (knows (clauses_reply cs a) o v ≡ true → (knows a o v ≡ true) ⊎ ClausesForce cs a o v)
    × ((knows a o v ≡ true) ⊎ ClausesForce cs a o v → knows (clauses_reply cs a) o v ≡ true)

-- of a build, a wanted value that is not lost is one that the build has
abbrev pub NotLostHad : Type 0
NotLostHad =
    (b : Assignment) (w : Wanted) → Total b → w.option < 64
    → (lost b w ≡ false → knows b w.option (not w.negated) ≡ true)
    × (knows b w.option (not w.negated) ≡ true → lost b w ≡ false)

-- rule k replies what the k-th of a list does, for the first 64, and there are no other rules
pub record OneEach {X : Type 0} (reply : X → Rule) (xs : List X) (rules : Meaning) : Type 0 where
  pub count : rules.count ≡ min 64 (length xs)
  pub each : (k : ℕ) (x : X) (a : Assignment) → k < 64 → k < length xs → slice_index_or xs k x ≡ x → rules.reply k a ≡ reply x a
  pub past : (k : ℕ) (a : Assignment) → rules.count ≤ k → rules.reply k a ≡ contradiction

abbrev pub TablesNumbered : Type 0
TablesNumbered = (ts : List Table) → OneEach table_reply ts (rules_of_tables ts)

abbrev pub ClausesNumbered : Type 0
ClausesNumbered = (ss : List (List (List Wanted))) → OneEach clauses_reply ss (rules_of_clauses ss)
