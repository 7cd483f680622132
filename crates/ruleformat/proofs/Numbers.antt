-- A number as bytes is read back from them, and bytes that are read as a number are its bytes.
use Rattle.std.proofs.Common.{◌≡◌, ℕ, zero, suc, ◌+◌, ◌*◌, ◌/◌, ◌%◌, ◌^◌, ◌<◌, ◌≤◌, List, [], ◌∷◌, length, take, sym, refl, ap, ◌∙◌, pow-suc, arith}
use Rattle.std.proofs.lemmas.Nat.{div_below, mod_below}
use Rattle.std.proofs.lemmas.List.{length-take-le}
use Rattle.ruleformat.specs.Bytes.{number}
use Rattle.ruleformat.specs.Encoding.{bytes_of}
use Rattle.ruleformat.specs.Laws.{Byte}
use Rattle.ruleformat.specs.WellFormed.{Each}
use Rattle.ruleformat.proofs.Each.{each_take}

pub bytes_each : (k x : ℕ) → Each Byte (bytes_of k x)
bytes_each zero x = tt
bytes_each (suc k) x = (mod_below x 256 (omega arith), bytes_each k (x / 256))

pub number_of_bytes : (k x : ℕ) → x < 256 ^ k → number (bytes_of k x) ≡ x
number_of_bytes zero x h = omega arith
number_of_bytes (suc k) x h =
    let more : x < 256 ^ k * 256 = rw pow-suc at h in
    let rest : number (bytes_of k (x / 256)) ≡ x / 256 = number_of_bytes k (x / 256) (div_below x 256 (256 ^ k) (omega arith) more) in
    omega (arith, rest)

pub two_of_bytes : (x : ℕ) → x < 65536 → x % 256 + 256 * ((x / 256) % 256) ≡ x
two_of_bytes x h = omega arith

low_byte : (b n : ℕ) → b < 256 → (b + 256 * n) % 256 ≡ b
low_byte b n h = omega arith

high_bytes : (b n : ℕ) → b < 256 → (b + 256 * n) / 256 ≡ n
high_bytes b n h = omega arith

number_encoded : (bs : List ℕ) → Each Byte bs → bytes_of (length bs) (number bs) ≡ bs
number_encoded [] h = refl
number_encoded (b ∷ bs) h = rw (low_byte b (number bs) h.0, high_bytes b (number bs) h.0) (ap (λ xs. b ∷ xs) (number_encoded bs h.1))

pub two_encoded : (a b : ℕ) → a < 256 → b < 256 → bytes_of 2 (a + 256 * b) ≡ a ∷ b ∷ []
two_encoded a b p q = let e : b % 256 ≡ b = omega arith in rw (low_byte a b p, high_bytes a b p, e)

-- the next k bytes as a number
pub number_in : (k : ℕ) (bs : List ℕ) → k ≤ length bs → Each Byte bs → bytes_of k (number (take k bs)) ≡ take k bs
number_in k bs l h =
    ap (λ j. bytes_of j (number (take k bs))) (sym (length-take-le k bs l)) ∙ number_encoded (take k bs) (each_take Byte k bs h)
