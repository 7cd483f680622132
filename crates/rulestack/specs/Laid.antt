-- A draft laid on rules.
use Rattle.std.specs.Prelude.{Some, None, Option}
use Rattle.entries.specs.Drafts.{drafted}
use Rattle.entries.specs.declared.draft.Draft.{Draft}
use Rattle.folders.specs.Folders.{folder}
use Rattle.ruleset.specs.Meaning.{Meaning}

-- a folder of the draft, or where there is none the rules as they are
abbrev pub laid : Option Draft → Meaning → Meaning
laid None m = m
laid (Some d) m = folder (drafted d) m
