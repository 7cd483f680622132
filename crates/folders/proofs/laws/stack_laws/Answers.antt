-- The theorems stand in Stacks and SameValues.
use Rattle.folders.proofs.SameValues.{same_values}
use Rattle.folders.proofs.Stacks.{folder_replies, stack_allows_builds, stack_lawful}
use Rattle.folders.proofs.laws.stack_laws.Goals as goal

pub returns : goal.returns
returns c =
    record { lawful = stack_lawful; replies = folder_replies; builds = stack_allows_builds; values = same_values }
