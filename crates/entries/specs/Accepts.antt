-- Which entries fit, which fields stand for an entry, and with that which fields a draft accepts. Nothing here speaks of
-- checks.
use Rattle.std.specs.Prelude.{◌≡◌, ℕ, ◌+◌, ◌^◌, ◌<◌, ◌≤◌, ◌⊎◌, count_ones, vec_len}
use Rattle.entries.specs.declared.draft.Draft.{Draft}
use Rattle.entries.specs.declared.entry.Entry.{Entry}
use Rattle.entries.specs.declared.entry.Entry.TheVariants as entry
use Rattle.entries.specs.declared.fields.EntryFields.{EntryFields}

-- an entry that fits n options over a count of rules below
abbrev pub EntryFits : (n below : ℕ) → Entry → Type 0
EntryFits n below (entry.Carry r) = r < below
EntryFits n below (entry.Product a b) = (a < below) × (b < below)
EntryFits n below (entry.Either a b) = (a < below) × (b < below)
EntryFits n below (entry.Selection r a b w) =
    (r < below) × (1 ≤ w) × (w ≤ 32) × (a + w ≤ n) × (b + w ≤ n) × ((a + w ≤ b) ⊎ (b + w ≤ a))
EntryFits n below (entry.Projection r hidden) = (r < below) × (hidden < 2 ^ n) × (count_ones hidden ≤ 16)
EntryFits n below (entry.Complement r) = r < below
EntryFits n below entry.None = Unit {0}

-- the fields that stand for an entry: its op's code, which is written out here, and 0 where the op has no use for a field
abbrev pub fields_for : Entry → EntryFields
fields_for (entry.Carry r) = record { op = 0; first = r; second = 0; third = 0; word = 0 }
fields_for (entry.Product a b) = record { op = 1; first = a; second = b; third = 0; word = 0 }
fields_for (entry.Either a b) = record { op = 2; first = a; second = b; third = 0; word = 0 }
fields_for (entry.Selection r a b w) = record { op = 3; first = r; second = a; third = b; word = w }
fields_for (entry.Projection r hidden) = record { op = 4; first = r; second = 0; third = 0; word = hidden }
fields_for (entry.Complement r) = record { op = 5; first = r; second = 0; third = 0; word = 0 }
fields_for entry.None = record { op = 6; first = 0; second = 0; third = 0; word = 0 }

-- the fields stand for this entry, and it fits what the draft was told
abbrev pub StandFor : Draft → EntryFields → Entry → Type 0
StandFor d f e = (fields_for e ≡ f) × EntryFits d.options d.below e

-- the draft has room for one more, was told 1 to 64 options, and the fields stand for some entry that fits
pub record Accepts (d : Draft) (f : EntryFields) : Type 0 where
  pub room : vec_len d.entries < 32
  pub some_option : 1 ≤ d.options
  pub few_options : d.options ≤ 64
  pub fitting : (e : Entry) × StandFor d f e
