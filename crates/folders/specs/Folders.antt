-- A folder over any set of rules, and stacks of folders.
use Rattle.std.specs.Prelude.{◌≤◌, List, [], ◌∷◌, map, length, slice_index_or}
use Rattle.std.specs.List.{AllByRecursion}
use Rattle.entries.specs.declared.entry.Entry.{Entry}
use Rattle.entries.specs.declared.entry.Entry.TheVariants.{None}
use Rattle.folders.specs.Entries.{Allowed, entry_allows, entry_reply}
use Rattle.ruleset.specs.Listed.{listed}
use Rattle.ruleset.specs.Meaning.{Meaning}

-- a rule for each entry
abbrev pub folder : List Entry → Meaning → Meaning
folder es m = listed (map (λ e. entry_reply e m.reply) es)

abbrev pub folder_allows : List Entry → Allowed → Allowed
folder_allows es below k b = entry_allows (slice_index_or es k None) below b

-- folders one over the other, the lowest first
unfoldable pub stack : List (List Entry) → Meaning → Meaning
stack [] m = m
stack (es ∷ fs) m = stack fs (folder es m)

unfoldable pub stack_allows : List (List Entry) → Allowed → Allowed
stack_allows [] below = below
stack_allows (es ∷ fs) below = stack_allows fs (folder_allows es below)

-- each folder has at most 32 entries
abbrev pub Small : List (List Entry) → Type 0
Small fs = AllByRecursion (λ es. length es ≤ 32) fs
