-- What is proved of the rules of a file.
use Rattle.std.specs.Prelude.{◌≡◌, ℕ, ◌↔◌}
use Rattle.assignment.specs.Lattice.{Total}
use Rattle.assignment.specs.declared.assignment.Assignment.{Assignment}
use Rattle.ruleformat.specs.Contents.{Contents, rules}
use Rattle.ruleformat.specs.WellFormed.{WellFormed}
use Rattle.ruleset.specs.Meaning.{Allows, Lawful}
use Rattle.rulestack.specs.FileRules.{file_allows, file_rules}

-- the rules of any contents keep the promises
abbrev pub FileLawful : Type 0
FileLawful = (c : Contents) → Lawful (file_rules c)

-- there are as many as the question may name: the topmost folder's entries, or the sheets where there is no folder
abbrev pub FileCount : Type 0
FileCount = (c : Contents) → WellFormed c → (file_rules c).count ≡ rules c

-- those of well-formed contents allow exactly the builds that the sheets and the table of entries say
abbrev pub FileAllows : Type 0
FileAllows =
    (c : Contents) → WellFormed c → (k : ℕ) (b : Assignment) → Total b → (Allows (file_rules c) k b ↔ file_allows c k b)
