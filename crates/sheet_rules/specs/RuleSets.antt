-- Table sheets and clause sheets as sets of rules.
use Rattle.std.specs.Prelude.{◌≡◌, List, map}
use Rattle.std.proofs.Common.{sym, ap, ◌∙◌}
use mathlib.Core.List.{map-map}
use Rattle.ruleset.specs.Listed.{listed}
use Rattle.ruleset.specs.Meaning.{Lawful, Meaning}
use Rattle.ruleformat.specs.Clauses.{clauses_of}
use Rattle.ruleformat.specs.Contents.{Table, Wanted}
use Rattle.ruleformat.specs.Tables.{table_of}
use Rattle.sheets.specs.Views.{clause_body, table_body}
use Rattle.sheets.specs.declared.clauses.ClauseSheet.{ClauseSheet}
use Rattle.sheets.specs.declared.table.TableSheet.{TableSheet}
use Rattle.sheet_rules.specs.ClauseReply.{clauses_lawful, clauses_reply}
use Rattle.sheet_rules.specs.Replies.{rules_lawful, rules_of}
use Rattle.sheet_rules.specs.SheetsHeld.{sheets_held}
use Rattle.sheet_rules.specs.TableReply.{table_lawful, table_reply}
use Rattle.sheet_rules.specs.declared.rules.SheetRules.{SheetRules}

-- rule k is table k
abbrev pub rules_of_tables : List Table → Meaning
rules_of_tables ts = rules_of table_reply ts

-- rule k is clause sheet k
abbrev pub rules_of_clauses : List (List (List Wanted)) → Meaning
rules_of_clauses ss = rules_of clauses_reply ss

-- what sheets hold

abbrev pub table_in : TableSheet → Table
table_in s = table_of (table_body s)

abbrev pub clauses_in : ClauseSheet → List (List Wanted)
clauses_in s = clauses_of (clause_body s)

abbrev pub tables_held : SheetRules TableSheet → List Table
tables_held s = map table_in (sheets_held s)

abbrev pub clauses_held : SheetRules ClauseSheet → List (List (List Wanted))
clauses_held s = map clauses_in (sheets_held s)

-- what a rule set of sheets means: the rules of what its sheets hold

abbrev pub tables_mean : SheetRules TableSheet → Meaning
tables_mean s = rules_of (λ body. table_reply (table_of body)) (map table_body (sheets_held s))

abbrev pub clauses_mean : SheetRules ClauseSheet → Meaning
clauses_mean s = rules_of (λ body. clauses_reply (clauses_of body)) (map clause_body (sheets_held s))

pub tables_mean_held : (s : SheetRules TableSheet) → tables_mean s ≡ rules_of_tables (tables_held s)
tables_mean_held s =
    ap listed
    (map-map (λ body. table_reply (table_of body)) table_body (sheets_held s)
    ∙ sym (map-map table_reply table_in (sheets_held s)))

pub clauses_mean_held : (s : SheetRules ClauseSheet) → clauses_mean s ≡ rules_of_clauses (clauses_held s)
clauses_mean_held s =
    ap listed
    (map-map (λ body. clauses_reply (clauses_of body)) clause_body (sheets_held s)
    ∙ sym (map-map clauses_reply clauses_in (sheets_held s)))

-- the rules of any sheets keep a rule set's promises

pub table_rules_lawful : (ts : List Table) → Lawful (rules_of_tables ts)
table_rules_lawful ts = rules_lawful table_reply table_lawful ts

pub clause_rules_lawful : (ss : List (List (List Wanted))) → Lawful (rules_of_clauses ss)
clause_rules_lawful ss = rules_lawful clauses_reply clauses_lawful ss
