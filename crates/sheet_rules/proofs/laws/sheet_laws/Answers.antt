-- The laws, each by its proof.
use Rattle.sheet_rules.specs.Agreement.{agrees_at, agrees_by}
use Rattle.sheet_rules.specs.RuleSets.{clauses_mean_held, tables_mean_held}
use Rattle.sheet_rules.proofs.ClausesAdd.{clauses_add, clauses_allow, not_lost_had}
use Rattle.sheet_rules.proofs.Numbered.{clauses_numbered, tables_numbered}
use Rattle.sheet_rules.proofs.TableAdds.{table_adds, table_allows}
use Rattle.sheet_rules.proofs.TableConsistent.{table_consistent}
use Rattle.sheet_rules.proofs.laws.sheet_laws.Goals as goal

pub returns : goal.returns
returns c =
    record {
      rows = λ cs row a. (agrees_at cs row a, agrees_by cs row a);
      tables_allow = table_allows;
      tables_add = table_adds;
      tables_consistent = table_consistent;
      wanted = not_lost_had;
      clauses_allow = clauses_allow;
      clauses_add = clauses_add;
      tables_numbered = tables_numbered;
      clauses_numbered = clauses_numbered;
      tables_mean = tables_mean_held;
      clauses_mean = clauses_mean_held;
    }
