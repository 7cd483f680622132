-- What the values of the code stand for: a sheet its body, a wanted value the format's.
use Rattle.std.specs.Prelude.{ℕ, List}
use Rattle.ruleformat.specs.Contents.{Wanted}
use Rattle.sheets.specs.declared.clauses.ClauseSheet.{ClauseSheet}
use Rattle.sheets.specs.declared.table.TableSheet.{TableSheet}
use Rattle.sheets.specs.declared.walk.Wanted.{Wanted as WantedValue}

abbrev pub table_body : TableSheet → List ℕ
table_body t = t.body.now

abbrev pub clause_body : ClauseSheet → List ℕ
clause_body s = s.body.now

abbrev pub wanted_view : WantedValue → Wanted
wanted_view w = record { option = w.option; negated = w.negated }
