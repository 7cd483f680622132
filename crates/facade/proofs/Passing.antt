-- What checks find, as one test.
use Rattle.std.proofs.Common.{◌≡◌, true, false, List, is_ok, Result, Ok, Err, refl, sym, ap, ◌∙◌}
use Rattle.std.proofs.lemmas.Bool.{both_ways}
use Rattle.refusals.specs.Checks.{Check, judged}
use Rattle.refusals.proofs.Judged.{judged_err, judged_ok}
use Rattle.facade.specs.Outcomes.{passes}

module _ {A F : Type 0} (cs : List (Check F)) (a : A) where
  pub passes_ok : (x : A) → judged cs a ≡ Ok x → passes cs ≡ true
  passes_ok x h = ap is_ok (judged_ok a (tt {0}) cs x h)

  pub passes_err : (e : F) → judged cs a ≡ Err e → passes cs ≡ false
  passes_err e h = ap is_ok (judged_err a (tt {0}) cs e h)

pub passed : {F : Type 0} (cs : List (Check F)) → passes cs ≡ true → judged cs (tt {0}) ≡ Ok (tt {0})
passed {F = F} cs h = go (judged cs (tt {0})) refl
  where
    go : (r : Result (Unit {0}) F) → judged cs (tt {0}) ≡ r → r ≡ Ok (tt {0})
    go (Ok x) e = refl
    go (Err f) e = absurd (both_ways true (sym h ∙ ap is_ok e) refl)
