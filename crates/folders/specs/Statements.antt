-- What is proved of folders and of stacks of any height.
use Rattle.std.specs.Prelude.{◌≡◌, ℕ, ◌<◌, ◌≤◌, min, ◌↔◌, List, length, slice_index_or}
use Rattle.assignment.specs.Knows.{value_of}
use Rattle.assignment.specs.Lattice.{contradiction, Total}
use Rattle.assignment.specs.declared.assignment.Assignment.{Assignment}
use Rattle.entries.specs.declared.entry.Entry.{Entry}
use Rattle.entries.specs.declared.entry.Entry.TheVariants.{None}
use Rattle.folders.specs.Entries.{entry_reply, SameAt}
use Rattle.folders.specs.Folders.{folder, Small, stack, stack_allows}
use Rattle.ruleset.specs.Meaning.{Allows, Lawful, Meaning}

-- over whatever keeps the promises a stack of any height keeps them
abbrev pub StackLawful : Type 0
StackLawful = (m : Meaning) → Lawful m → (fs : List (List Entry)) → Lawful (stack fs m)

-- how many rules there are, and what each replies, where each entry is a rule over those of m
pub record EntryRules (m : Meaning) (es : List Entry) (rules : Meaning) : Type 0 where
  pub count : rules.count ≡ min 64 (length es)
  pub each : (k : ℕ) (a : Assignment) → k < 64 → k < length es → rules.reply k a ≡ entry_reply (slice_index_or es k None) m.reply a
  pub past : (k : ℕ) (a : Assignment) → rules.count ≤ k → rules.reply k a ≡ contradiction

-- rule k of a folder gives the reply that the table of entries has for its entry k, and there are no other rules
abbrev pub FolderReplies : Type 0
FolderReplies = (m : Meaning) (es : List Entry) → EntryRules m es (folder es m)

-- with at most 32 entries in each folder, a stack allows exactly the builds that the table of entries makes, folder by
-- folder, of those allowed below
abbrev pub StackAllows : Type 0
StackAllows =
    (m : Meaning) → Lawful m → (fs : List (List Entry)) → Small fs → (k : ℕ) (b : Assignment) → Total b → (Allows (stack fs m) k b ↔ stack_allows fs (Allows m) k b)

-- of a build, options below 64 are the same by `SameAt` exactly if they have the same value
abbrev pub SameValues : Type 0
SameValues = (b : Assignment) → Total b → (o p : ℕ) → o < 64 → p < 64 → (SameAt b o p ↔ (value_of b o ≡ value_of b p))
