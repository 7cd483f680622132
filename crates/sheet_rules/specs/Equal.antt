-- The test whether two values are equal, and what it says.
use Rattle.std.specs.Prelude.{◌≡◌, Bool, true, false, refl}
use Rattle.std.specs.Bool.{beq}
use Rattle.std.proofs.Common.{sym, ap, ◌∙◌}

pub same_value : (x y : Bool) → beq x y ≡ true → x ≡ y
same_value true true e = refl
same_value true false e = sym e
same_value false true e = e
same_value false false e = refl

pub value_same : (x y : Bool) → x ≡ y → beq x y ≡ true
value_same x y e = ap (λ z. beq z y) e ∙ itself y
  where
    itself : (z : Bool) → beq z z ≡ true
    itself true = refl
    itself false = refl
