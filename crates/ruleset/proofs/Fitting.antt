-- The options that a list covers, and the builds that a rule allows.
use Rattle.std.proofs.Common.{◌≡◌, ℕ, ◌<◌, Bool, true, false, ◌⊎◌, List, [], ◌∷◌, refl, ap, ◌∙◌, inl, inr}
use mathlib.Core.List.Memᴰ
use mathlib.Core.List.{Memᴰ}
use Rattle.std.proofs.lemmas.Bool.{both_ways, false_from_ne_true, true_from_ne_false}
use Rattle.assignment.specs.Knows.{known, knows}
use Rattle.assignment.specs.Lattice.{inconsistent, put, Refines, Total}
use Rattle.assignment.specs.Laws.{consistent_down, known_up, put_least, refines_trans, total_above, total_by, total_consistent, total_other}
use Rattle.assignment.specs.declared.assignment.Assignment.{Assignment}
use Rattle.ruleset.specs.Closure.{closure}
use Rattle.ruleset.specs.Listed.{Rule}
use Rattle.ruleset.specs.Meaning.{LawfulRule}
use Rattle.ruleset.specs.Tree.{Covers, Fits}
use Rattle.ruleset.proofs.ClosureLaws.{closure_least}

pub covers_up : {d c : Assignment} (os : List ℕ) → Refines d c → Covers os c → Covers os d
covers_up {d} {c} os r cov o h u =
    cov o h (false_from_ne_true (known c o) (λ k. both_ways (known d o) u (known_up r o k)))

pub covers_tail : (o : ℕ) (os : List ℕ) (c : Assignment) → known c o ≡ true → Covers (o ∷ os) c → Covers os c
covers_tail o os c k cov p h u = go (Memᴰ.cases_cons (cov p h u))
  where
    go : (p ≡ o) ⊎ Memᴰ p os → Memᴰ p os
    go (inl e) = absurd (both_ways (known c p) u (ap (known c) e ∙ k))
    go (inr m) = m

pub covers_total : (c : Assignment) → Covers [] c → inconsistent c ≡ false → Total c
covers_total c cov i = total_by c (λ o h. true_from_ne_false (known c o) (λ u. Memᴰ.not-nil (cov o h u))) i

-- a build that fits is above the closure of whatever it refines
pub fits_closure : (f : Rule) → LawfulRule f → (a b : Assignment) → Fits f a b → Fits f (closure f a) b
fits_closure f l a b fit = (
  fit.0,
  (closure_least f l a).least b (fit.2, λ i. absurd (both_ways (inconsistent b) (total_consistent b fit.0) i)) fit.1,
  fit.2,
)

pub fits_down : {c a : Assignment} (f : Rule) (b : Assignment) → Refines c a → Fits f c b → Fits f a b
fits_down f b r fit = (fit.0, refines_trans fit.1 r, fit.2)

-- it has one of the two values of an option
pub fits_put : (f : Rule) (o : ℕ) (c b : Assignment) → o < 64 → Fits f c b → Fits f (put o true c) b ⊎ Fits f (put o false c) b
fits_put f o c b h fit = go (knows b o true) refl
  where
    go : (v : Bool) → knows b o true ≡ v → Fits f (put o true c) b ⊎ Fits f (put o false c) b
    go true e = inl (fit.0, put_least o true fit.1 e, fit.2)
    go false e = inr (fit.0, put_least o false fit.1 (total_other b fit.0 o h true e), fit.2)

pub fits_consistent : (f : Rule) (c b : Assignment) → Fits f c b → inconsistent c ≡ false
fits_consistent f c b fit = consistent_down fit.1 (total_consistent b fit.0)

-- where nothing is unknown only the assignment itself fits
pub fits_whole : (f : Rule) (c b : Assignment) → Covers [] c → Fits f c b → b ≡ c
fits_whole f c b cov fit =
    total_above (covers_total c cov (fits_consistent f c b fit)) fit.1 (total_consistent b fit.0)
