-- What the rules of a file reply, and, apart from that, which builds they allow.
use Rattle.std.specs.Prelude.{zero, suc, List, [], ◌∷◌}
use Rattle.assignment.specs.declared.assignment.Assignment.{Assignment}
use Rattle.folders.specs.Entries.{Allowed}
use Rattle.folders.specs.Folders.{stack, stack_allows}
use Rattle.ruleformat.specs.Contents.{Contents}
use Rattle.ruleset.specs.Meaning.{Meaning}
use Rattle.ruleset.specs.SideBySide.{side_by_side}
use Rattle.sheet_rules.specs.Laws.{ClausesAllow, TableAllows}
use Rattle.sheet_rules.specs.RuleSets.{rules_of_clauses, rules_of_tables}

-- the tables, and after them the clause sheets
abbrev pub sheet_rules : Contents → Meaning
sheet_rules c = side_by_side (rules_of_tables c.tables) (rules_of_clauses c.clauses)

-- the folders over the sheets
abbrev pub file_rules : Contents → Meaning
file_rules c = stack c.folders (sheet_rules c)

-- rule k allows what the list's k-th allows, and the rules past the list are others
abbrev pub one_each : {X : Type 0} → (X → Assignment → Type 0) → List X → Allowed → Allowed
one_each P [] others k b = others k b
one_each P (x ∷ xs) others zero b = P x b
one_each P (x ∷ xs) others (suc k) b = one_each P xs others k b

abbrev pub no_rule : Allowed
no_rule k b = ⊥

abbrev pub sheets_allow : Contents → Allowed
sheets_allow c = one_each TableAllows c.tables (one_each ClausesAllow c.clauses no_rule)

abbrev pub file_allows : Contents → Allowed
file_allows c = stack_allows c.folders (sheets_allow c)
