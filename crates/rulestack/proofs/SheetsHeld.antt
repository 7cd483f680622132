-- The sheets of a file, side by side, are the rules that its contents say.
use Rattle.std.proofs.Common.{◌≡◌, ◌≤◌, map, vec_items, vec_len, ◌+◌, sym, ap, ◌∙◌, subst, ap₂, arith}
use Rattle.std.proofs.lemmas.List.{length-map}
use Rattle.rulefile.specs.Held.{contents_in}
use Rattle.rulefile.specs.declared.file.FileParts.{FileParts}
use Rattle.ruleset.specs.Meaning.{Meaning}
use Rattle.ruleset.specs.SideBySide.{side_by_side}
use Rattle.ruleset.specs.declared.side_by_side.SideBySide.{SideBySide}
use Rattle.sheet_rules.specs.ClauseReply.{clauses_reply}
use Rattle.sheet_rules.specs.RuleSets.{clauses_in, clauses_mean, clauses_mean_held, rules_of_clauses, rules_of_tables, table_in, tables_mean, tables_mean_held}
use Rattle.sheet_rules.specs.TableReply.{table_reply}
use Rattle.sheet_rules.specs.SheetsHeld.{sheets_held}
use Rattle.sheet_rules.specs.declared.rules.SheetRules.{SheetRules}
use Rattle.sheets.specs.declared.clauses.ClauseSheet.{ClauseSheet}
use Rattle.sheets.specs.declared.table.TableSheet.{TableSheet}
use Rattle.rulestack.specs.FileRules.{sheet_rules}

-- tables beside clause sheets
abbrev pub Sheets : Type 0
Sheets = SideBySide (SheetRules TableSheet) (SheetRules ClauseSheet)

abbrev pub sheets_mean : Sheets → Meaning
sheets_mean s = side_by_side (tables_mean s.first) (clauses_mean s.second)

-- made of these tables and clause sheets
pub record Beside (p : FileParts) (s : Sheets) : Type 0 where
  pub tables : sheets_held s.first ≡ vec_items p.tables
  pub clauses : sheets_held s.second ≡ vec_items p.clauses

pub beside : {s : Sheets} {ts : SheetRules TableSheet} {cs : SheetRules ClauseSheet} (p : FileParts) → s.first ≡ ts → s.second ≡ cs → sheets_held ts ≡ vec_items p.tables → sheets_held cs ≡ vec_items p.clauses → Beside p s
beside p first second ts cs =
    record { tables = ap sheets_held first ∙ ts; clauses = ap sheets_held second ∙ cs }

pub sheets_are : (p : FileParts) (s : Sheets) → Beside p s → sheets_mean s ≡ sheet_rules (contents_in p)
sheets_are p s h =
    ap₂ side_by_side (tables_mean_held s.first) (clauses_mean_held s.second)
    ∙ ap₂ (λ ts cs. side_by_side (rules_of_tables (map table_in ts)) (rules_of_clauses (map clauses_in cs))) h.tables h.clauses

pub few_sheets : (p : FileParts) (s : Sheets) → vec_len p.tables + vec_len p.clauses ≤ 32 → Beside p s → (sheets_mean s).count ≤ 32
few_sheets p s few h =
    subst (λ (m : Meaning). m.count ≤ 32) (sym (sheets_are p s h))
    (omega (
      arith,
      length-map (map table_in (vec_items p.tables)) table_reply,
      length-map (vec_items p.tables) table_in,
      length-map (map clauses_in (vec_items p.clauses)) clauses_reply,
      length-map (vec_items p.clauses) clauses_in,
      p.tables.ok.0,
      p.clauses.ok.0,
      few,
    ))
