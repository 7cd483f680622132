-- The lines of bytes are those that are written into them, each with its end.
use Rattle.std.proofs.Common.{◌≡◌, ℕ, Bool, true, false, cond, ◌==◌, List, [], ◌∷◌, ◌++◌, refl, ap, ◌∙◌}
use Rattle.std.specs.List.{flat_map, onto_first}
use Rattle.std.proofs.lemmas.Bool.{eqb-true}
use Rattle.std.proofs.lemmas.List.{append_assoc}
use Rattle.commands.specs.Lines.{AllWritten, line_of_rest, lines, LinesWritten, NoEnd, NoEnds}
use Rattle.commands.specs.Replies.{ended}

-- up to the first end
pub first_line : (bytes more : List ℕ) → NoEnd bytes → lines (bytes ++ (10 ∷ more)) ≡ bytes ∷ lines more
first_line [] more n = refl
first_line (b ∷ bs) more n =
    ap (λ t. cond t ([] ∷ lines (bs ++ (10 ∷ more))) (onto_first b (lines (bs ++ (10 ∷ more))))) n.0 ∙ ap (onto_first b) (first_line bs more n.1)

-- bytes with no end in them
pub only_line : (bytes : List ℕ) → NoEnd bytes → lines bytes ≡ line_of_rest bytes
only_line [] n = refl
only_line (b ∷ []) n = ap (λ t. cond t ([] ∷ []) ((b ∷ []) ∷ [])) n.0
only_line (b ∷ c ∷ bs) n =
    ap (λ t. cond t ([] ∷ lines (c ∷ bs)) (onto_first b (lines (c ∷ bs)))) n.0 ∙ ap (onto_first b) (only_line (c ∷ bs) n.1)

pub lines_written : LinesWritten
lines_written [] rest w n = only_line rest n
lines_written (line ∷ more) rest w n =
    ap lines (append_assoc (ended line) (flat_map ended more) rest ∙ append_assoc line (10 ∷ []) (flat_map ended more ++ rest))
    ∙ first_line line (flat_map ended more ++ rest) w.0 ∙ ap (λ ls. line ∷ ls) (lines_written more rest w.1 n)

abbrev Written : List ℕ → Type 0
Written bytes = (written : List (List ℕ)) × (rest : List ℕ) × NoEnds written × NoEnd rest × (bytes ≡ flat_map ended written ++ rest)

-- one byte before
end_before : (b : ℕ) (bs : List ℕ) → (b == 10) ≡ true → Written bs → Written (b ∷ bs)
end_before b bs e w = ([] ∷ w.0, w.1, (tt, w.2), w.3, ap (λ c. c ∷ bs) (eqb-true b 10 e) ∙ ap (λ xs. 10 ∷ xs) w.4)

byte_before : (b : ℕ) (bs : List ℕ) → (b == 10) ≡ false → Written bs → Written (b ∷ bs)
byte_before b bs e w = go w.0 w.2 w.4
  where
    go : (written : List (List ℕ)) → NoEnds written → bs ≡ flat_map ended written ++ w.1 → Written (b ∷ bs)
    go [] n at = ([], b ∷ w.1, tt, (e, w.3), ap (λ xs. b ∷ xs) at)
    go (line ∷ more) n at = ((b ∷ line) ∷ more, w.1, ((e, n.0), n.1), w.3, ap (λ xs. b ∷ xs) at)

pub all_written : AllWritten
all_written [] = ([], [], tt, tt, refl)
all_written (b ∷ bs) = go (b == 10) refl (all_written bs)
  where
    go : (t : Bool) → (b == 10) ≡ t → Written bs → Written (b ∷ bs)
    go true e w = end_before b bs e w
    go false e w = byte_before b bs e w
