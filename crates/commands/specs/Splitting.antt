-- What a splitter keeps, what a call of it does, and what feeding it piece after piece comes to.
use Rattle.std.specs.Prelude.{◌≡◌, ℕ, ◌≤◌, min, List, [], ◌∷◌, length, take, map, Option, None, Some}
use Rattle.std.specs.List.{concat}
use Rattle.std.specs.Option.{option_to_list}
use Rattle.commands.specs.Lines.{feed, last_verdict, lines, Verdict}
use Rattle.commands.specs.Parsing.{parsed}
use Rattle.commands.specs.declared.splitter.Splitter.{Splitter}

-- these bytes came since the last line's end
pub record Pending (s : Splitter) (bytes : List ℕ) : Type 0 where
  pub count : s.count ≡ min (length bytes) 22
  pub kept : s.count ≤ 21 → bytes ≡ take s.count s.kept

-- of every splitter there are bytes, none at all perhaps, that could be pending
abbrev pub CouldBePending : Type 0
CouldBePending = (s : Splitter) → (bytes : List ℕ) × Pending s bytes

-- a splitter that is fed a piece becomes another, answers, and leaves the rest of the piece
pub record Feeds (bytes : List ℕ) (new : Splitter) (piece left : List ℕ) (verdict : Option Verdict) : Type 0 where
  pub verdict_is : verdict ≡ (feed bytes piece).verdict
  pub left_is : left ≡ (feed bytes piece).left
  pub pending : Pending new (feed bytes piece).pending

abbrev pub NextLine : Splitter → Splitter → List ℕ → List ℕ → Option Verdict → Type 0
NextLine old new piece left verdict = (bytes : List ℕ) → Pending old bytes → Feeds bytes new piece left verdict

abbrev pub Finishes : Splitter → Splitter → Option Verdict → Type 0
Finishes old new verdict = (bytes : List ℕ) → Pending old bytes → (verdict ≡ last_verdict bytes) × Pending new []

-- Fed with these pieces, each until it is used up, and then finished, a splitter gives these verdicts.
pub data FedAll : Splitter → List (List ℕ) → List Verdict → Type 0 where
  finished : {s t : Splitter} {last : Option Verdict} → Finishes s t last → FedAll s [] (option_to_list last)
  used_up : {s t : Splitter} {piece left : List ℕ} {pieces : List (List ℕ)} {verdicts : List Verdict} → NextLine s t piece left None → FedAll t pieces verdicts → FedAll s (piece ∷ pieces) verdicts
  ends : {s t : Splitter} {piece left : List ℕ} {pieces : List (List ℕ)} {verdict : Verdict} {verdicts : List Verdict} → NextLine s t piece left (Some verdict) → FedAll t (left ∷ pieces) verdicts → FedAll s (piece ∷ pieces) (verdict ∷ verdicts)

abbrev pub Splits : Type 0
Splits =
    (s : Splitter) → Pending s [] → (pieces : List (List ℕ)) (verdicts : List Verdict) → FedAll s pieces verdicts → verdicts ≡ map parsed (lines (concat pieces))
