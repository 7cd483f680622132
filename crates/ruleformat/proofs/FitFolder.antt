-- A folder's body that passes its checks is the encoding of fit entries.
use Rattle.std.proofs.Common.{◌≡◌, ℕ, ◌+◌, ◌/◌, ◌%◌, ◌≤◌, false, not, ◌||◌, eqb, ltb, List, [], ◌∷◌, map, length, take, refl, ap, ◌∙◌, not-suc-le-zero, arith}
use Rattle.std.proofs.lemmas.List.{length-map}
use Rattle.std.proofs.lemmas.Bool.Decides.{nat_tests}
use Rattle.refusals.specs.Checks.{within}
use Rattle.entries.specs.Accepts.{EntryFits}
use Rattle.entries.specs.Fields.{entry_checks}
use Rattle.entries.specs.declared.fields.EntryFields.{EntryFields}
use Rattle.ruleformat.specs.Encoding.{encode_entries, encode_entry, encode_fields}
use Rattle.ruleformat.specs.Folders.{at_entry, entries_checks, entries_of, entry_in, entry_pieces, entry_size, fields_of, folder_checks}
use Rattle.ruleformat.specs.Laws.{Byte}
use Rattle.ruleformat.specs.WellFormed.{Each, FolderFits}
use Rattle.entries.proofs.Accepting.{fields_fit}
use Rattle.ruleformat.proofs.Numbers.{number_in}
use Rattle.refusals.proofs.Passing.{Passing, passing_parts, passing_unwrapped}
use Rattle.ruleformat.proofs.Pieces.{Kept, even_pieces, pieces_encoded, pieces_keep}

entry_front : (rest : List ℕ) → 12 ≤ length rest → Each Byte rest → encode_fields (fields_of rest) ≡ take 12 rest
entry_front [] l h = absurd (not-suc-le-zero l)
entry_front (a ∷ []) l h = absurd (omega arith)
entry_front (a ∷ b ∷ []) l h = absurd (omega arith)
entry_front (a ∷ b ∷ c ∷ []) l h = absurd (omega arith)
entry_front (a ∷ b ∷ c ∷ d ∷ xs) l h = ap (λ ys. a ∷ b ∷ c ∷ d ∷ ys) (number_in 8 xs (omega arith) h.1.1.1.1)

entries_fit : (n below place i : ℕ) (rests : List (List ℕ)) → Each (Each Byte) rests → Each (λ rest. 12 ≤ length rest) rests → Passing (entries_checks n below place i rests) → Each (EntryFits n below) (map entry_in rests) × Each (Kept entry_size entry_in encode_entry) rests
entries_fit n below place i [] bytes whole h = (tt, tt)
entries_fit n below place i (r ∷ rs) bytes whole h =
    let f : EntryFields = fields_of r in
    let p =
    passing_parts (within (at_entry place i) (entry_checks n below f)) (entries_checks n below place (i + 1) rs) h in
    let e =
    fields_fit n below f (passing_unwrapped (at_entry place i) (entry_checks n below f) p.0) in
    let more = entries_fit n below place (i + 1) rs bytes.1 whole.1 p.1 in
    ((e.0, more.0), ((omega arith, whole.0, ap encode_fields e.1 ∙ entry_front r whole.0 bytes.0), more.1))

-- a body of l bytes
fit_size : (l : ℕ) → (eqb l 0 || (ltb 384 l || not (eqb (l % 12) 0))) ≡ false → (1 ≤ l) × (l ≤ 384) × (l % 12 ≡ 0)
fit_size l h = (grind (arith, nat_tests), grind (arith, nat_tests), grind (arith, nat_tests))

pub folder_fits : (n below place : ℕ) (body : List ℕ) → Each Byte body → Passing (folder_checks n below place body) → FolderFits n below (entries_of body) × (encode_entries (entries_of body) ≡ body)
folder_fits n below place body bytes h =
    let s = fit_size (length body) h.0 in
    let some : 1 ≤ length body = s.0 in
    let few : length body ≤ 384 = s.1 in
    let w : length body % 12 ≡ 0 = s.2 in
    let p = even_pieces entry_size 12 (omega arith) (λ rest. refl) (length body / 12) body (omega arith) in
    let r = entries_fit n below place 0 (entry_pieces body) (pieces_keep Byte entry_size 0 body bytes) p.1 h.1 in
    let k : length (entries_of body) ≡ length body / 12 = length-map (entry_pieces body) entry_in ∙ p.0 in (
      record { some_entry = omega arith; few_entries = omega arith; each_fits = r.0 },
      pieces_encoded entry_size entry_in encode_entry (length body) body (omega arith) r.1,
    )
