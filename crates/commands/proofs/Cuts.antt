-- However bytes are cut into pieces, a splitter gives the verdicts on their lines.
use Rattle.std.proofs.Common.{◌≡◌, ℕ, ◌<◌, ◌≤◌, Bool, true, false, cond, ◌==◌, ◌⊎◌, inl, inr, List, [], ◌∷◌, ◌++◌, take, map, replicate, Option, None, Some, arith, refl, sym, ap, ap₂, subst, ◌∙◌}
use Rattle.std.specs.List.{concat}
use Rattle.std.specs.Option.{option_to_list}
use Rattle.std.proofs.lemmas.Bool.{cases_lt, eqb-true}
use Rattle.std.proofs.lemmas.List.{append-nil, append_assoc, length-take-le}
use Rattle.commands.proofs.LineLaws.{first_line, only_line}
use Rattle.commands.specs.Lines.{Fed, feed, last_verdict, lines, NoEnd, Verdict}
use Rattle.commands.specs.Parsing.{parsed}
use Rattle.commands.specs.Splitting.{CouldBePending, ends, FedAll, finished, Pending, Splits, used_up}
use Rattle.commands.specs.declared.splitter.Splitter.{Splitter}

no_end_more : (bytes : List ℕ) (b : ℕ) → NoEnd bytes → (b == 10) ≡ false → NoEnd (bytes ++ (b ∷ []))
no_end_more [] b n e = (e, tt)
no_end_more (a ∷ bs) b n e = (n.0, no_end_more bs b n.1 e)

pub last_line : (bytes : List ℕ) → NoEnd bytes → option_to_list (last_verdict bytes) ≡ map parsed (lines bytes)
last_line [] n = refl
last_line (b ∷ bs) n = sym (ap (map parsed) (only_line (b ∷ bs) n))

-- what feeding a piece comes to, by the lines of all bytes and of those behind the piece
abbrev pub Parted : List ℕ → List ℕ → Option Verdict → List ℕ → List ℕ → Type 0
Parted all rest None left pending = NoEnd pending × (lines all ≡ lines (pending ++ rest))
Parted all rest (Some v) left pending =
    (line : List ℕ) × (v ≡ parsed line) × (pending ≡ []) × (lines all ≡ line ∷ lines (left ++ rest))

abbrev pub PartedBy : List ℕ → List ℕ → Fed → Type 0
PartedBy all rest fed = Parted all rest fed.verdict fed.left fed.pending

pub parted : (bytes piece rest : List ℕ) → NoEnd bytes → PartedBy (bytes ++ (piece ++ rest)) rest (feed bytes piece)
parted bytes [] rest n = (n, refl)
parted bytes (b ∷ bs) rest n = go (b == 10) refl (parted (bytes ++ (b ∷ [])) bs rest)
  where
    at_end : (b == 10) ≡ true → lines (bytes ++ (b ∷ (bs ++ rest))) ≡ bytes ∷ lines (bs ++ rest)
    at_end e = ap (λ c. lines (bytes ++ (c ∷ (bs ++ rest)))) (eqb-true b 10 e) ∙ first_line bytes (bs ++ rest) n

    go : (t : Bool) → (b == 10) ≡ t → (NoEnd (bytes ++ (b ∷ [])) → PartedBy ((bytes ++ (b ∷ [])) ++ (bs ++ rest)) rest (feed (bytes ++ (b ∷ [])) bs)) → PartedBy (bytes ++ (b ∷ (bs ++ rest))) rest (cond t (record { verdict = Some (parsed bytes); left = bs; pending = [] }) (feed (bytes ++ (b ∷ [])) bs))
    go true e more = (bytes, refl, refl, at_end e)
    go false e more =
        subst (λ xs. PartedBy xs rest (feed (bytes ++ (b ∷ [])) bs)) (append_assoc bytes (b ∷ []) (bs ++ rest)) (more (no_end_more bytes b n e))

pub verdicts_of_lines : {s : Splitter} {pieces : List (List ℕ)} {verdicts : List Verdict} → FedAll s pieces verdicts → (bytes : List ℕ) → NoEnd bytes → Pending s bytes → verdicts ≡ map parsed (lines (bytes ++ concat pieces))
verdicts_of_lines (finished f) bytes n p =
    ap option_to_list (f bytes p).0 ∙ last_line bytes n ∙ ap (λ xs. map parsed (lines xs)) (sym (append-nil bytes))
verdicts_of_lines (used_up {piece = piece} {left = left} {pieces = pieces} f more) bytes n p =
    let fed = f bytes p in
    let cut =
    subst (λ v. Parted (bytes ++ (piece ++ concat pieces)) (concat pieces) v (feed bytes piece).left (feed bytes piece).pending) (sym fed.verdict_is)
    (parted bytes piece (concat pieces) n) in
    verdicts_of_lines more (feed bytes piece).pending cut.0 fed.pending ∙ ap (map parsed) (sym cut.1)
verdicts_of_lines (ends {t = t} {piece = piece} {left = left} {pieces = pieces} {verdict = verdict} {verdicts = verdicts} f more) bytes n p =
    let fed = f bytes p in
    let cut =
    subst (λ v. Parted (bytes ++ (piece ++ concat pieces)) (concat pieces) v (feed bytes piece).left (feed bytes piece).pending) (sym fed.verdict_is)
    (parted bytes piece (concat pieces) n) in
    let behind = verdicts_of_lines more [] tt (subst (Pending t) cut.2 fed.pending) in
    ap₂ (λ v vs. v ∷ vs) cut.1 (behind ∙ ap (λ xs. map parsed (lines (xs ++ concat pieces))) fed.left_is) ∙ ap (map parsed) (sym cut.3)

pub splits : Splits
splits s p pieces verdicts runs = verdicts_of_lines runs [] tt p

pub could_be_pending : CouldBePending
could_be_pending s = go (cases_lt s.count 22)
  where
    go : (s.count < 22) ⊎ (22 ≤ s.count) → (bytes : List ℕ) × Pending s bytes
    go (inl h) = (
      take s.count s.kept,
      record { count = omega (arith, s.room, length-take-le s.count s.kept (omega (arith, s.room))); kept = λ k. refl },
    )
    go (inr h) = (
      replicate 22 0,
      record { count = omega (arith, s.counted); kept = λ k. absurd (omega arith) },
    )
