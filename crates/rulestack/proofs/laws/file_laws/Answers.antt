-- The theorems stand in SheetsAllow and Counts.
use Rattle.rulestack.proofs.Counts.{file_count}
use Rattle.rulestack.proofs.SheetsAllow.{file_allows_builds, file_lawful}
use Rattle.rulestack.proofs.laws.file_laws.Goals as goal

pub returns : goal.returns
returns c = record { lawful = file_lawful; count = file_count; builds = file_allows_builds }
