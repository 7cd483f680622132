-- The lines of bytes, and what feeding a piece of them comes to.
use Rattle.std.specs.Prelude.{◌≡◌, ℕ, false, cond, ◌==◌, List, [], ◌∷◌, ◌++◌, Option, None, Some, Result}
use Rattle.calls.specs.declared.call.Call.{Call}
use Rattle.calls.specs.declared.refusal.CallRefusal.{CallRefusal}
use Rattle.std.specs.List.{flat_map, onto_first}
use Rattle.commands.specs.Replies.{ended}
use Rattle.commands.specs.Parsing.{parsed}

abbrev pub Verdict : Type 0
Verdict = Result Call CallRefusal

-- the lines, each without its end; bytes after the last end are a line too
abbrev pub lines : List ℕ → List (List ℕ)
lines [] = []
lines (b ∷ bs) = cond (b == 10) ([] ∷ lines bs) (onto_first b (lines bs))

-- no line ends in these bytes
abbrev pub NoEnd : List ℕ → Type 0
NoEnd [] = Unit {0}
NoEnd (b ∷ bs) = ((b == 10) ≡ false) × NoEnd bs

abbrev pub NoEnds : List (List ℕ) → Type 0
NoEnds [] = Unit {0}
NoEnds (line ∷ more) = NoEnd line × NoEnds more

-- bytes after the last end, as a line; none if there are no bytes
abbrev pub line_of_rest : List ℕ → List (List ℕ)
line_of_rest [] = []
line_of_rest (b ∷ bs) = (b ∷ bs) ∷ []

-- lines written one after the other, each with its end, and a rest that has none, are those lines and the rest
abbrev pub LinesWritten : Type 0
LinesWritten = (written : List (List ℕ)) (rest : List ℕ) → NoEnds written → NoEnd rest → lines (flat_map ended written ++ rest) ≡ written ++ line_of_rest rest

-- and any bytes are written so
abbrev pub AllWritten : Type 0
AllWritten = (bytes : List ℕ) → (written : List (List ℕ)) × (rest : List ℕ) × NoEnds written × NoEnd rest × (bytes ≡ flat_map ended written ++ rest)

-- the verdict on the line that ends, what is left of the piece, and what then came of the next line, or of this one if
-- it does not end
pub record Fed : Type 0 where
  pub verdict : Option Verdict
  pub left : List ℕ
  pub pending : List ℕ

-- a piece, after what came of a line before it
abbrev pub feed : List ℕ → List ℕ → Fed
feed bytes [] = record { verdict = None; left = []; pending = bytes }
feed bytes (b ∷ bs) =
    cond (b == 10) (record { verdict = Some (parsed bytes); left = bs; pending = [] }) (feed (bytes ++ (b ∷ [])) bs)

-- what came after the last end
abbrev pub last_verdict : List ℕ → Option Verdict
last_verdict [] = None
last_verdict (b ∷ bs) = Some (parsed (b ∷ bs))
