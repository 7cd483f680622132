-- The kinds of records: 1 start, 2 table, 3 clauses, 4 folder, 5 question.
use Rattle.std.specs.Prelude.{ℕ, Bool, cond, not, ◌||◌, ◌==◌, nat_lt}

-- what is none of the first four counts as a question; the check of the kind rules any other out before
abbrev pub by_kind : {A : Type 0} → ℕ → (start table clauses folder question : A) → A
by_kind k s t c f q = cond (k == 1) s (cond (k == 2) t (cond (k == 3) c (cond (k == 4) f q)))

-- none of the five
abbrev pub unknown : ℕ → Bool
unknown k = k == 0 || nat_lt 5 k

-- Kind k may not follow the kind before it, which is 0 at the first record: the first is a start and no other is,
-- kinds never go down, and nothing follows a question.
abbrev pub out_of_turn : ℕ → ℕ → Bool
out_of_turn before k = cond (before == 0) (not (k == 1)) (before == 5 || (k == 1 || nat_lt k before))
