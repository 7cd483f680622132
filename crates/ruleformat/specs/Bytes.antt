-- Numbers in a list of bytes, and the pieces that a list of bytes is cut into.
use Rattle.std.specs.Prelude.{ℕ, zero, suc, ◌+◌, ◌-◌, ◌*◌, List, [], ◌∷◌, slice_index}

-- the number that bytes stand for, the least byte first
abbrev pub number : List ℕ → ℕ
number [] = 0
number (b ∷ bs) = b + 256 * number bs

-- the number that the two bytes from place i on stand for, the least byte first
abbrev pub two : List ℕ → ℕ → ℕ
two bytes i = slice_index bytes i + 256 * slice_index bytes (i + 1)

-- A list of bytes is cut into pieces one after the other, each as long as `size` says of the bytes from its first on.
-- `pieces size 0 bytes` has for each piece the bytes from its first on; at `pieces size k` k bytes are still passed over.
abbrev pub pieces : (List ℕ → ℕ) → ℕ → List ℕ → List (List ℕ)
pieces size zero [] = []
pieces size zero (b ∷ bs) = (b ∷ bs) ∷ pieces size (size (b ∷ bs) - 1) bs
pieces size (suc k) [] = []
pieces size (suc k) (b ∷ bs) = pieces size k bs
