-- The rules that a folder or the question may name: those of the topmost folder, and what one folder more makes of them.
use Rattle.std.proofs.Common.{◌≡◌, ℕ, suc, ◌-◌, ◌≤◌, false, cond, eqb, List, [], ◌∷◌, ◌++◌, length, get_or, refl, sub-one, arith}
use Rattle.std.proofs.lemmas.Bool.{ne_eqb}
use Rattle.entries.specs.declared.entry.Entry.{Entry}
use Rattle.ruleformat.specs.Contents.{Contents, rules, sheets}
use Rattle.ruleformat.specs.WellFormed.{FolderFits, FoldersFit, top}

-- the reader's count, over so many sheets
abbrev named : ℕ → List (List Entry) → ℕ
named below fs = cond (eqb (length fs) 0) below (length (get_or fs (length fs - 1) []))

last_top : (below : ℕ) (f : List Entry) (fs : List (List Entry)) → length (get_or (f ∷ fs) (length fs) []) ≡ top below (f ∷ fs)
last_top below f [] = refl
last_top below f (g ∷ gs) = last_top (length f) g gs

named_top : (below : ℕ) (fs : List (List Entry)) → named below fs ≡ top below fs
named_top below [] = refl
named_top below (f ∷ fs) =
    let some : eqb (length (f ∷ fs)) 0 ≡ false = ne_eqb (suc (length fs)) 0 (λ z. omega arith) in
    simp (some, sub-one) (last_top below f fs)

pub rules_top : (c : Contents) → rules c ≡ top (sheets c) c.folders
rules_top c = named_top (sheets c) c.folders

pub top_push : (below : ℕ) (fs : List (List Entry)) (f : List Entry) → top below (fs ++ f ∷ []) ≡ length f
top_push below [] f = refl
top_push below (g ∷ gs) f = top_push (length g) gs f

pub top_few : (n below : ℕ) (fs : List (List Entry)) → below ≤ 32 → FoldersFit n below fs → top below fs ≤ 32
top_few n below [] few h = few
top_few n below (f ∷ fs) few h = top_few n (length f) fs h.0.few_entries h.1

pub folders_push : (n below : ℕ) (fs : List (List Entry)) (f : List Entry) → FoldersFit n below fs → FolderFits n (top below fs) f → FoldersFit n below (fs ++ f ∷ [])
folders_push n below [] f h p = (p, tt)
folders_push n below (g ∷ gs) f h p = (h.0, folders_push n (length g) gs f h.1 p)
