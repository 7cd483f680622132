-- A draft's entries, and its checks in their order: room, the number of options told, then the entry's own.
use Rattle.std.specs.Prelude.{ℕ, zero, suc, List, [], ◌∷◌, ◌++◌, vec_items, vec_len, ◌==◌, nat_le, nat_lt}
use Rattle.refusals.specs.Checks.{Check, when}
use Rattle.refusals.specs.declared.refusal.Refusal.{Refusal}
use Rattle.refusals.specs.declared.refusal.Refusal.TheVariants.{TooMany, OutOfRange}
use Rattle.entries.specs.declared.draft.Draft.{Draft}
use Rattle.entries.specs.declared.entry.Entry.{Entry}
use Rattle.entries.specs.declared.entry.Entry.TheVariants.{Carry}
use Rattle.entries.specs.declared.fields.EntryFields.{EntryFields}
use Rattle.entries.specs.Fields.{entry_checks}

-- the entries of a draft
abbrev pub drafted : Draft → List Entry
drafted d = vec_items d.entries

-- the entries that carry the rules below n, each under its own number
unfoldable pub carries : ℕ → List Entry
carries zero = []
carries (suc n) = carries n ++ Carry n ∷ []

abbrev pub draft_checks : Draft → EntryFields → List (Check Refusal)
draft_checks d f =
    when (nat_le 32 (vec_len d.entries)) TooMany ∷ when (d.options == 0) OutOfRange
    ∷ when (nat_lt 64 d.options) OutOfRange ∷ entry_checks d.options d.below f
