-- An encoded folder reads back as its entries, and passes its checks where they fit.
use Rattle.std.proofs.Common.{◌≡◌, ℕ, ◌+◌, ◌*◌, ◌%◌, ◌^◌, ◌<◌, ◌≤◌, false, not, ◌||◌, eqb, ltb, List, [], ◌∷◌, ◌++◌, map, length, sym, refl, ap, ◌∙◌, subst, ap₂, arith, pow_mono}
use Rattle.std.proofs.lemmas.Bool.Decides.{nat_tests}
use Rattle.refusals.specs.Checks.{within}
use Rattle.entries.specs.Accepts.{EntryFits, fields_for}
use Rattle.entries.specs.Fields.{entry_checks, entry_of}
use Rattle.entries.specs.declared.entry.Entry.{Entry}
use Rattle.entries.specs.declared.entry.Entry.TheVariants as entry
use Rattle.entries.specs.declared.fields.EntryFields.{EntryFields}
use Rattle.ruleformat.specs.Encoding.{encode_entries, encode_entry, encode_fields}
use Rattle.ruleformat.specs.Folders.{at_entry, entries_checks, entries_of, entry_in, entry_pieces, entry_size, fields_of, folder_checks}
use Rattle.ruleformat.specs.Laws.{Byte}
use Rattle.ruleformat.specs.WellFormed.{Each, FolderFits}
use Rattle.entries.proofs.Accepting.{entry_is, entry_passes}
use Rattle.ruleformat.proofs.Each.{each_joined, each_map}
use Rattle.ruleformat.proofs.Numbers.{bytes_each, number_of_bytes}
use Rattle.refusals.proofs.Passing.{Passing, passing_append, passing_within}
use Rattle.ruleformat.proofs.Pieces.{pieces_joined}

fields_read : (f : EntryFields) (tail : List ℕ) → f.word < 2 ^ 64 → fields_of (encode_fields f ++ tail) ≡ f
fields_read f tail h =
    λ i. record { op = f.op; first = f.first; second = f.second; third = f.third; word = number_of_bytes 8 f.word h i }

fields_bytes : (f : EntryFields) → (f.op < 256) × (f.first < 256) × (f.second < 256) × (f.third < 256) → Each Byte (encode_fields f)
fields_bytes f h = (h.0, (h.1, (h.2, (h.3, bytes_each 8 f.word))))

pub folder_length : (es : List Entry) → length (encode_entries es) ≡ 12 * length es
folder_length [] = refl
folder_length (e ∷ es) = omega (arith, folder_length es)

first_entry : (e : Entry) (es : List Entry) → entry_pieces (encode_entries (e ∷ es)) ≡ (encode_entry e ++ encode_entries es) ∷ entry_pieces (encode_entries es)
first_entry e es = pieces_joined entry_size (encode_entry e) (encode_entries es) (omega arith) refl

-- k entries, in l bytes
shape_fits : (k l : ℕ) → 1 ≤ k → k ≤ 32 → l ≡ 12 * k → (eqb l 0 || (ltb 384 l || not (eqb (l % 12) 0))) ≡ false
shape_fits k l some few e =
    let whole : l % 12 ≡ 0 = omega arith in
    rw whole (grind (arith, nat_tests))

module _ (n below : ℕ) (few : n ≤ 64) where
  word_small : (e : Entry) → EntryFits n below e → (fields_for e).word < 2 ^ 64
  word_small (entry.Carry r) h = omega arith
  word_small (entry.Product a b) h = omega arith
  word_small (entry.Either a b) h = omega arith
  word_small (entry.Selection r a b w) h = omega arith
  word_small (entry.Projection r hidden) h = let p : 2 ^ n ≤ 2 ^ 64 = pow_mono few in omega (arith, p)
  word_small (entry.Complement r) h = omega arith
  word_small entry.None h = omega arith

  entry_bytes : below ≤ 32 → (e : Entry) → EntryFits n below e → Each Byte (encode_entry e)
  entry_bytes low (entry.Carry r) h = fields_bytes (fields_for (entry.Carry r)) (omega arith)
  entry_bytes low (entry.Product a b) h = fields_bytes (fields_for (entry.Product a b)) (omega arith)
  entry_bytes low (entry.Either a b) h = fields_bytes (fields_for (entry.Either a b)) (omega arith)
  entry_bytes low (entry.Selection r a b w) h = fields_bytes (fields_for (entry.Selection r a b w)) (omega arith)
  entry_bytes low (entry.Projection r hidden) h = fields_bytes (fields_for (entry.Projection r hidden)) (omega arith)
  entry_bytes low (entry.Complement r) h = fields_bytes (fields_for (entry.Complement r)) (omega arith)
  entry_bytes low entry.None h = fields_bytes (fields_for entry.None) (omega arith)

  entries_read : (es : List Entry) → Each (EntryFits n below) es → entries_of (encode_entries es) ≡ es
  entries_read [] h = refl
  entries_read (e ∷ es) h =
      ap (map entry_in) (first_entry e es)
      ∙ ap₂ ◌∷◌ (ap entry_of (fields_read (fields_for e) (encode_entries es) (word_small e h.0)) ∙ entry_is n below e h.0)
      (entries_read es h.1)

  entries_pass : (place i : ℕ) (es : List Entry) → Each (EntryFits n below) es → Passing (entries_checks n below place i (entry_pieces (encode_entries es)))
  entries_pass place i [] h = tt
  entries_pass place i (e ∷ es) h =
      let rest = encode_entry e ++ encode_entries es in
      let same = sym (fields_read (fields_for e) (encode_entries es) (word_small e h.0)) in
      subst (λ ps. Passing (entries_checks n below place i ps)) (sym (first_entry e es))
      (passing_append (within (at_entry place i) (entry_checks n below (fields_of rest)))
      (entries_checks n below place (i + 1) (entry_pieces (encode_entries es)))
      (passing_within (at_entry place i) (entry_checks n below (fields_of rest))
      (subst (λ f. Passing (entry_checks n below f)) same (entry_passes n below e h.0)))
      (entries_pass place (i + 1) es h.1))

  module _ (es : List Entry) (fits : FolderFits n below es) where
    pub folder_read : entries_of (encode_entries es) ≡ es
    folder_read = entries_read es fits.each_fits

    pub folder_passes : (place : ℕ) → Passing (folder_checks n below place (encode_entries es))
    folder_passes place = (
      shape_fits (length es) (length (encode_entries es)) fits.some_entry fits.few_entries (folder_length es),
      entries_pass place 0 es fits.each_fits,
    )

    pub folder_bytes : below ≤ 32 → Each Byte (encode_entries es)
    folder_bytes low =
        each_joined Byte encode_entry es
        (each_map (EntryFits n below) (λ e. Each Byte (encode_entry e)) es (entry_bytes low) fits.each_fits)
