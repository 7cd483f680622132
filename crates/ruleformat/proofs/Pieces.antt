-- How bytes are cut into pieces: one piece at a time, pieces of one size, pieces that are joined, and pieces that are encoded again.
use Rattle.std.proofs.Common.{◌≡◌, ℕ, zero, suc, ◌+◌, ◌-◌, ◌*◌, ◌<◌, ◌≤◌, List, [], ◌∷◌, ◌++◌, map, length, get_or, take, drop, sym, refl, ap, ◌∙◌, subst, not-suc-le-zero, suc-mul, arith}
use Rattle.std.specs.List.{flat_map}
use Rattle.std.specs.Simd.{first_chunks}
use Rattle.std.proofs.lemmas.List.{drop_at, drop-drop, length-append, length-drop, nil_from_length, take-append-drop}
use Rattle.ruleformat.specs.Bytes.{pieces}
use Rattle.ruleformat.specs.WellFormed.{Each}

pieces_skip : (size : List ℕ → ℕ) (k : ℕ) (bs : List ℕ) → pieces size k bs ≡ pieces size 0 (drop k bs)
pieces_skip size zero bs = refl
pieces_skip size (suc k) [] = refl
pieces_skip size (suc k) (b ∷ bs) = pieces_skip size k bs

drop_before : (n : ℕ) (b : ℕ) (bs : List ℕ) → 1 ≤ n → drop (n - 1) bs ≡ drop n (b ∷ bs)
drop_before zero b bs h = absurd (not-suc-le-zero h)
drop_before (suc n) b bs h = let e : suc n - 1 ≡ n = omega arith in rw e

-- the first piece, and those that follow it
pub pieces_more : (size : List ℕ → ℕ) (rest : List ℕ) → 0 < length rest → 1 ≤ size rest → pieces size 0 rest ≡ rest ∷ pieces size 0 (drop (size rest) rest)
pieces_more size [] h s = absurd (not-suc-le-zero h)
pieces_more size (b ∷ bs) h s =
    let tail = pieces_skip size (size (b ∷ bs) - 1) bs ∙ ap (λ xs. pieces size 0 xs) (drop_before (size (b ∷ bs)) b bs s) in
    ap (λ ps. (b ∷ bs) ∷ ps) tail

-- a piece p, and what follows it
pub pieces_joined : (size : List ℕ → ℕ) (p tail : List ℕ) → 0 < length p → size (p ++ tail) ≡ length p → pieces size 0 (p ++ tail) ≡ (p ++ tail) ∷ pieces size 0 tail
pieces_joined size p tail h e =
    let long : 0 < length (p ++ tail) = omega (arith, length-append p tail) in
    let some : 1 ≤ size (p ++ tail) = omega arith in
    pieces_more size (p ++ tail) long some ∙ ap (λ ps. (p ++ tail) ∷ pieces size 0 ps) (drop_at p tail (size (p ++ tail)) (sym e))

-- each piece keeps what holds of every byte
pub pieces_keep : (P : ℕ → Type 0) (size : List ℕ → ℕ) (k : ℕ) (bs : List ℕ) → Each P bs → Each (Each P) (pieces size k bs)
pieces_keep P size zero [] h = tt
pieces_keep P size zero (b ∷ bs) h = (h, pieces_keep P size (size (b ∷ bs) - 1) bs h.1)
pieces_keep P size (suc k) [] h = tt
pieces_keep P size (suc k) (b ∷ bs) h = pieces_keep P size k bs h.1

-- pieces of one size s
module _ (size : List ℕ → ℕ) (s : ℕ) (some : 1 ≤ s) (is : (rest : List ℕ) → size rest ≡ s) where
  pub even_pieces : (q : ℕ) (bs : List ℕ) → length bs ≡ q * s → (length (pieces size 0 bs) ≡ q) × Each (λ rest. s ≤ length rest) (pieces size 0 bs)
  even_pieces zero bs h = let e : bs ≡ [] = nil_from_length bs (omega arith) in rw e (refl, tt)
  even_pieces (suc q) bs h =
      let m : length bs ≡ q * s + s = h ∙ suc-mul q s in
      let l : length (drop s bs) ≡ q * s = omega (arith, length-drop s bs) in
      let p : pieces size 0 bs ≡ bs ∷ pieces size 0 (drop s bs) = pieces_more size bs (omega arith) (rw is some) ∙ rw is in
      let r = even_pieces q (drop s bs) l in
      rw p (ap suc r.0, (omega arith, r.1))

-- pieces that are read by f and encoded by g
module _ {X : Type 0} (size : List ℕ → ℕ) (f : List ℕ → X) (g : X → List ℕ) where
  -- a whole piece, which is encoded as it was
  abbrev pub Kept : List ℕ → Type 0
  Kept rest = (1 ≤ size rest) × (size rest ≤ length rest) × (g (f rest) ≡ take (size rest) rest)

  pub pieces_encoded : (k : ℕ) (bs : List ℕ) → length bs ≤ k → Each Kept (pieces size 0 bs) → flat_map g (map f (pieces size 0 bs)) ≡ bs
  pieces_encoded k [] l h = refl
  pieces_encoded zero (b ∷ bs) l h = absurd (not-suc-le-zero l)
  pieces_encoded (suc k) (b ∷ bs) l h =
      let rest : List ℕ = b ∷ bs in
      let n : ℕ = size rest in
      let p : pieces size 0 rest ≡ rest ∷ pieces size 0 (drop n rest) = pieces_more size rest (omega arith) h.0.0 in
      let t : Each Kept (rest ∷ pieces size 0 (drop n rest)) = subst (Each Kept) p h in
      let s : length (drop n rest) ≤ k = omega (arith, length-drop n rest, h.0.0) in
      ap (λ ps. flat_map g (map f ps)) p
      ∙ ap (λ ys. ys ++ flat_map g (map f (pieces size 0 (drop n rest)))) h.0.2
      ∙ ap (λ ys. take n rest ++ ys) (pieces_encoded k (drop n rest) s t.1)
      ∙ take-append-drop n rest

-- of n chunks of size s, the one with number i
pub chunk_at : (s n i : ℕ) (xs d : List ℕ) → i < n → get_or (first_chunks s n xs) i d ≡ take s (drop (s * i) xs)
chunk_at s zero i xs d h = absurd (omega arith)
chunk_at s (suc n) zero xs d h = let e : 0 ≡ s * 0 = omega arith in ap (λ k. take s (drop k xs)) e
chunk_at s (suc n) (suc i) xs d h =
    let e : s * i + s ≡ s * suc i = omega (arith, suc-mul i s) in
    chunk_at s n i (drop s xs) d (omega arith) ∙ ap (take s) (drop-drop (s * i) s xs ∙ ap (λ k. drop k xs) (omega (arith, e)))
