-- The rules of well-formed contents are as many as its topmost folder has entries, or as there are sheets.
use Rattle.std.proofs.Common.{◌≡◌, ℕ, ◌+◌, ◌≤◌, List, [], ◌∷◌, length, sym, ◌∙◌, arith}
use Rattle.std.proofs.lemmas.List.{length-map}
use Rattle.entries.specs.declared.entry.Entry.{Entry}
use Rattle.folders.specs.Folders.{folder, stack}
use Rattle.folders.proofs.Stacks.{folder_count}
use Rattle.ruleformat.specs.Contents.{Contents}
use Rattle.ruleformat.specs.WellFormed.{FoldersFit, top, WellFormed}
use Rattle.ruleformat.proofs.Rules.{rules_top}
use Rattle.ruleset.specs.Meaning.{Meaning}
use Rattle.rulestack.specs.FileRules.{file_rules, sheet_rules}
use Rattle.rulestack.specs.Statements.{FileCount}
use Rattle.sheet_rules.specs.ClauseReply.{clauses_reply}
use Rattle.sheet_rules.specs.TableReply.{table_reply}

few_entries : (es : List Entry) (m : Meaning) → length es ≤ 32 → (folder es m).count ≡ length es
few_entries es m h = omega (arith, h, folder_count es m)

stack_count : (options below : ℕ) (fs : List (List Entry)) (m : Meaning) → m.count ≡ below → FoldersFit options below fs → (stack fs m).count ≡ top below fs
unfolding stack
stack_count options below [] m e fit = e
stack_count options below (es ∷ fs) m e fit =
    stack_count options (length es) fs (folder es m) (few_entries es m fit.0.few_entries) fit.1

sheets_count : (c : Contents) → WellFormed c → (sheet_rules c).count ≡ length c.tables + length c.clauses
sheets_count c fine =
    omega (arith, length-map c.tables table_reply, length-map c.clauses clauses_reply, fine.few_sheets)

pub rules_count : (c : Contents) → WellFormed c → (file_rules c).count ≡ top (length c.tables + length c.clauses) c.folders
rules_count c fine =
    stack_count c.options (length c.tables + length c.clauses) c.folders (sheet_rules c) (sheets_count c fine) fine.folders_fit

pub file_count : FileCount
file_count c fine = rules_count c fine ∙ sym (rules_top c)
