-- The sheets of a file allow the builds that their rows and clauses say.
use Rattle.std.proofs.Common.{◌≡◌, ℕ, zero, suc, ◌+◌, ◌-◌, ◌<◌, ◌≤◌, cond, ◌⊎◌, ◌↔◌, List, [], ◌∷◌, map, length, get_or, sym, ap, ◌∙◌, subst, inl, inr, arith}
use Rattle.std.proofs.lemmas.List.{length-map}
use Rattle.std.proofs.lemmas.Bool.{cases_lt, le-ltb, lt-ltb}
use Rattle.assignment.specs.Lattice.{Total}
use Rattle.assignment.specs.declared.assignment.Assignment.{Assignment}
use Rattle.entries.specs.declared.entry.Entry.{Entry}
use Rattle.folders.specs.Entries.{Allowed}
use Rattle.folders.specs.Folders.{Small}
use Rattle.folders.proofs.Builds.{not_dead}
use Rattle.folders.proofs.Stacks.{Alike, stack_builds, stack_lawful}
use Rattle.ruleformat.specs.Contents.{Contents}
use Rattle.ruleformat.specs.WellFormed.{FoldersFit, WellFormed}
use Rattle.ruleset.specs.Listed.{listed, nothing, Rule}
use Rattle.ruleset.specs.Meaning.{Allows, Lawful, Meaning}
use Rattle.ruleset.specs.SideBySide.{count_both, rule_of, side_by_side, side_by_side_lawful}
use Rattle.sheet_rules.specs.ClauseReply.{clauses_reply}
use Rattle.sheet_rules.specs.Laws.{ClausesAllow, TableAllows}
use Rattle.sheet_rules.specs.RuleSets.{rules_of_clauses, clause_rules_lawful, rules_of_tables, table_rules_lawful}
use Rattle.sheet_rules.specs.TableReply.{table_reply}
use Rattle.sheet_rules.proofs.ClausesAdd.{clauses_allow}
use Rattle.sheet_rules.proofs.TableAdds.{table_allows}
use Rattle.rulestack.specs.FileRules.{no_rule, one_each, sheet_rules, sheets_allow}
use Rattle.rulestack.specs.Statements.{FileAllows, FileLawful}

-- rules given by a list, of which each allows what the other side says

module _ {X : Type 0} (reply : X → Rule) (P : X → Assignment → Type 0) (each : (x : X) (b : Assignment) → Total b → (reply x b ≡ b) ↔ P x b) where
  listed_at : (xs : List X) (others : Allowed) (k : ℕ) (b : Assignment) → Total b → k < length xs → (get_or (map reply xs) k nothing b ≡ b) ↔ one_each P xs others k b
  listed_at [] others k b t h = absurd (omega arith)
  listed_at (x ∷ xs) others zero b t h = each x b t
  listed_at (x ∷ xs) others (suc k) b t h = listed_at xs others k b t (omega arith)

-- past the list the others follow
others_at : {X : Type 0} (P : X → Assignment → Type 0) (xs : List X) (others : Allowed) (k : ℕ) (b : Assignment) → length xs ≤ k → one_each P xs others k b ≡ others (k - length xs) b
others_at P [] others k b h = ap (λ n. others n b) (omega arith)
others_at P (x ∷ xs) others zero b h = absurd (omega arith)
others_at P (x ∷ xs) others (suc k) b h =
    others_at P xs others k b (omega arith) ∙ ap (λ n. others n b) (omega arith)

cast : {A B C : Type 0} → A ↔ B → C ≡ B → A ↔ C
cast {A} iff e = subst (λ T. A ↔ T) (sym e) iff

-- whose rule k is, with few enough sheets

module _ (m n : Meaning) (few : m.count + n.count ≤ 64) where
  reply_first : (k : ℕ) → k < m.count → (side_by_side m n).reply k ≡ m.reply k
  reply_first k h =
      ap (λ p. cond p (rule_of m n k) nothing) (lt-ltb k (count_both m n) (omega arith))
      ∙ ap (λ p. cond p (m.reply k) (n.reply (k - m.count))) (lt-ltb k m.count h)

  reply_second : (k : ℕ) → m.count ≤ k → k < m.count + n.count → (side_by_side m n).reply k ≡ n.reply (k - m.count)
  reply_second k h l =
      ap (λ p. cond p (rule_of m n k) nothing) (lt-ltb k (count_both m n) (omega arith))
      ∙ ap (λ p. cond p (m.reply k) (n.reply (k - m.count))) (le-ltb k m.count h)

  reply_past : (k : ℕ) → m.count + n.count ≤ k → (side_by_side m n).reply k ≡ nothing
  reply_past k h = ap (λ p. cond p (rule_of m n k) nothing) (le-ltb k (count_both m n) (omega arith))

reply_listed : (fs : List Rule) (k : ℕ) → k < 64 → (listed fs).reply k ≡ get_or fs k nothing
reply_listed fs k h = ap (λ p. cond p (get_or fs k nothing) nothing) (lt-ltb k 64 h)

-- an equal reply gives back the same builds
given_back : {r s : Rule} {b : Assignment} {Q : Type 0} → r ≡ s → (s b ≡ b) ↔ Q → (r b ≡ b) ↔ Q
given_back {r} {s} {b} e iff = (λ x. iff.0 (sym (ap (λ f. f b) e) ∙ x), λ q. ap (λ f. f b) e ∙ iff.1 q)

pub sheets_alike : (c : Contents) → length c.tables + length c.clauses ≤ 32 → Alike (Allows (sheet_rules c)) (sheets_allow c)
sheets_alike c few k b t = go (cases_lt k (length c.tables)) (cases_lt k (length c.tables + length c.clauses))
  where
    m : Meaning
    m = rules_of_tables c.tables

    n : Meaning
    n = rules_of_clauses c.clauses

    tables : m.count ≡ length c.tables
    tables = omega (arith, length-map c.tables table_reply)

    clauses : n.count ≡ length c.clauses
    clauses = omega (arith, length-map c.clauses clauses_reply)

    both : m.count + n.count ≤ 64
    both = omega (arith, tables, clauses)

    others : Allowed
    others = one_each ClausesAllow c.clauses no_rule

    go : (k < length c.tables) ⊎ (length c.tables ≤ k) → (k < length c.tables + length c.clauses) ⊎ (length c.tables + length c.clauses ≤ k) → Allows (sheet_rules c) k b ↔ sheets_allow c k b
    go (inl h) q =
        given_back (reply_first m n both k (omega (arith, tables)) ∙ reply_listed (map table_reply c.tables) k (omega arith))
        (listed_at table_reply TableAllows table_allows c.tables others k b t h)
    go (inr h) (inl l) =
        let back : k - m.count ≡ k - length c.tables = ap (λ x. k - x) tables in
        cast
        (given_back
        (reply_second m n both k (omega (arith, tables)) (omega (arith, tables, clauses))
        ∙ ap n.reply back ∙ reply_listed (map clauses_reply c.clauses) (k - length c.tables) (omega arith))
        (listed_at clauses_reply ClausesAllow clauses_allow c.clauses no_rule (k - length c.tables) b t (omega arith)))
        (others_at TableAllows c.tables others k b h)
    go (inr h) (inr l) =
        let gone = ap (λ f. f b) (reply_past m n both k (omega (arith, tables, clauses))) in
        cast (λ x. absurd (not_dead b t (sym gone ∙ x)), λ x. absurd x)
        (others_at TableAllows c.tables others k b h
        ∙ others_at ClausesAllow c.clauses no_rule (k - length c.tables) b (omega arith))

small_folders : (n below : ℕ) (fs : List (List Entry)) → FoldersFit n below fs → Small fs
small_folders n below [] fit = tt
small_folders n below (f ∷ fs) fit = (fit.0.few_entries, small_folders n (length f) fs fit.1)

sheets_lawful : (c : Contents) → Lawful (sheet_rules c)
sheets_lawful c = side_by_side_lawful (table_rules_lawful c.tables) (clause_rules_lawful c.clauses)

small : (c : Contents) → WellFormed c → Small c.folders
small c w = small_folders c.options (length c.tables + length c.clauses) c.folders w.folders_fit

pub file_lawful : FileLawful
file_lawful c = stack_lawful (sheet_rules c) (sheets_lawful c) c.folders

pub file_allows_builds : FileAllows
file_allows_builds c w k b t =
    stack_builds c.folders (small c w) (sheet_rules c) (sheets_lawful c) (sheets_allow c) (sheets_alike c w.few_sheets) k b t
