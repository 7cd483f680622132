-- A record as bytes is read back from them, and the bytes of a record that is read are its encoding.
use Rattle.std.proofs.Common.{◌≡◌, ℕ, suc, ◌+◌, ◌*◌, ◌<◌, ◌≤◌, List, [], ◌∷◌, ◌++◌, length, take, sym, ap, ◌∙◌, not-suc-le-zero, arith}
use Rattle.std.proofs.lemmas.List.{length-append, length-take-le, take_at}
use Rattle.ruleformat.specs.Encoding.{bytes_of, encode_record}
use Rattle.ruleformat.specs.Laws.{Byte}
use Rattle.ruleformat.specs.Records.{body, body_size, kind, record_size, records}
use Rattle.ruleformat.specs.WellFormed.{Each}
use Rattle.ruleformat.proofs.Numbers.{two_encoded, two_of_bytes}
use Rattle.ruleformat.proofs.Pieces.{pieces_joined}

module _ (k : ℕ) (b tail : List ℕ) (short : length b < 65536) (known : k < 65536) where
  pub body_size_of_record : body_size (encode_record k b ++ tail) ≡ length b
  body_size_of_record = two_of_bytes (length b) short

  pub kind_of_record : kind (encode_record k b ++ tail) ≡ k
  kind_of_record = two_of_bytes k known

  pub body_of_record : body (encode_record k b ++ tail) ≡ b
  body_of_record = take_at b tail (body_size (encode_record k b ++ tail)) (sym body_size_of_record)

  pub records_of_record : records (encode_record k b ++ tail) ≡ (encode_record k b ++ tail) ∷ records tail
  records_of_record = pieces_joined record_size (encode_record k b) tail (omega arith) (omega (arith, body_size_of_record))

  pub length_of_record : length (encode_record k b ++ tail) ≡ 4 + (length b + length tail)
  length_of_record = omega (arith, length-append b tail)

-- a record is its head's encoding and its body
pub record_encoded : (rest : List ℕ) → Each Byte rest → 4 ≤ length rest → record_size rest ≤ length rest → encode_record (kind rest) (body rest) ≡ take (record_size rest) rest
record_encoded [] h f l = absurd (not-suc-le-zero f)
record_encoded (a ∷ []) h f l = absurd (omega arith)
record_encoded (a ∷ b ∷ []) h f l = absurd (omega arith)
record_encoded (a ∷ b ∷ c ∷ []) h f l = absurd (omega arith)
record_encoded (a ∷ b ∷ c ∷ d ∷ xs) h f l =
    let n : ℕ = a + 256 * b in
    let e : 4 + n ≡ suc (suc (suc (suc n))) = omega arith in
    let s : length (take n xs) ≡ n = length-take-le n xs (omega arith) in
    ap (λ j. bytes_of 2 j ++ (bytes_of 2 (c + 256 * d) ++ take n xs)) s
    ∙ ap (λ ys. ys ++ (bytes_of 2 (c + 256 * d) ++ take n xs)) (two_encoded a b h.0 h.1.0)
    ∙ ap (λ ys. a ∷ b ∷ (ys ++ take n xs)) (two_encoded c d h.1.1.0 h.1.1.1.0)
    ∙ ap (λ j. take j (a ∷ b ∷ c ∷ d ∷ xs)) (sym e)
