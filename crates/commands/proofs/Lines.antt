-- How long the pieces of a line are so far, and the letters of the first options.
use Rattle.std.proofs.Common.{◌≡◌, ℕ, zero, suc, ◌+◌, ◌<◌, ◌≤◌, min, List, [], ◌∷◌, ◌++◌, length, take, get_or, map, arith, ap, ◌∙◌}
use Rattle.std.specs.Borrow.{Bor}
use Rattle.std.specs.List.{range_with_len}
use Rattle.std.proofs.lemmas.List.{append-nil, append_assoc, length-append}
use Rattle.std.proofs.lemmas.List.FromFn.{take-map-range_with_len}
use Rattle.commands.specs.Replies.{text_in}

pub pieces_so_far : (pieces : List (Bor (List ℕ))) (i : ℕ) (d : Bor (List ℕ)) → i < length pieces → length (text_in (take i pieces)) + length ((get_or pieces i d).now) ≤ length (text_in pieces)
pieces_so_far [] i d h = absurd (omega arith)
pieces_so_far (p ∷ ps) zero d h = omega (arith, length-append p.now (text_in ps))
pieces_so_far (p ∷ ps) (suc i) d h =
    omega (arith, pieces_so_far ps i d (omega arith), length-append p.now (text_in ps), length-append p.now (text_in (take i ps)))

pub letters_first : (letter : ℕ → ℕ) (options : ℕ) (letters first : List ℕ) → letters ≡ map letter (range_with_len 0 64) → first ≡ take (min options 64) letters → first ≡ map letter (range_with_len 0 (min options 64))
letters_first letter options letters first all e =
    e ∙ ap (take (min options 64)) all ∙ take-map-range_with_len letter 0 64 (min options 64) (omega arith)

-- two words with what stands between
pub two_joined : (w s a b c d : List ℕ) → a ≡ c → b ≡ d → w ++ (a ++ (s ++ (b ++ []))) ≡ w ++ c ++ s ++ d
two_joined w s a b c d p q = rw (p, q) (simp (append_assoc, append-nil))
