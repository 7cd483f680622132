-- Two options of a build are the same by `SameAt` exactly if they have the same value.
use Rattle.std.proofs.Common.{◌≡◌, ℕ, Bool, true, false, not, sym, refl, ap, ◌∙◌, ap₂}
use mathlib.Core.Bool.{not-not}
use Rattle.assignment.specs.Knows.{has, knows, value_from, value_of}
use Rattle.assignment.specs.Laws.{consistent_at, total_consistent, total_other}
use Rattle.assignment.specs.declared.assignment.Assignment.{Assignment}
use Rattle.assignment.specs.declared.value.Value.{Value}
use Rattle.assignment.specs.declared.value.Value.TheVariants.{Unknown, Yes, No, Inconsistent}
use Rattle.folders.specs.Entries.{SameAt}
use Rattle.folders.specs.Statements.{SameValues}

says : Bool → Value → Bool
says v Unknown = false
says true Yes = true
says false Yes = false
says true No = false
says false No = true
says v Inconsistent = true

said : (b : Assignment) (o : ℕ) (v : Bool) → says v (value_of b o) ≡ knows b o v
unfolding knows says
said b o true = go (has b.yes o) (has b.no o)
  where
    go : (p q : Bool) → says true (value_from p q) ≡ p
    go true true = refl
    go true false = refl
    go false true = refl
    go false false = refl
said b o false = go (has b.yes o) (has b.no o)
  where
    go : (p q : Bool) → says false (value_from p q) ≡ q
    go true true = refl
    go true false = refl
    go false true = refl
    go false false = refl

values : (b : Assignment) (o p : ℕ) → ((v : Bool) → knows b o v ≡ knows b p v) → value_of b o ≡ value_of b p
unfolding knows
values b o p e = ap₂ value_from (e true) (e false)

pub same_values : SameValues
same_values b t o p ho hp = (
  λ s. values b o p (λ v. alike s v (knows b o v) refl),
  λ e v k. consistent_at b p v (total_consistent b t) (sym (said b p v) ∙ sym (ap (says v) e) ∙ said b o v ∙ k),
)
  where
    up : SameAt b o p → (v : Bool) → knows b o v ≡ true → knows b p v ≡ true
    up s v k = ap (knows b p) (sym (not-not v)) ∙ total_other b t p hp (not v) (s v k)

    alike : SameAt b o p → (v : Bool) (w : Bool) → knows b o v ≡ w → knows b o v ≡ knows b p v
    alike s v true k = k ∙ sym (up s v k)
    alike s v false k =
        k
        ∙ sym (ap (knows b p) (sym (not-not v))
        ∙ consistent_at b p (not v) (total_consistent b t) (up s (not v) (total_other b t o ho v k)))
