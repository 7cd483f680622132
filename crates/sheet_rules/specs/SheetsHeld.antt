-- The sheets of a rule set.
use Rattle.std.specs.Prelude.{List, vec_items}
use Rattle.sheet_rules.specs.declared.rules.SheetRules.{SheetRules}

abbrev pub sheets_held : {S : Type 0} → SheetRules S → List S
sheets_held s = vec_items s.sheets
