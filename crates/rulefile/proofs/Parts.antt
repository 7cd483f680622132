-- A part of a file's contents that grew by one.
use Rattle.std.proofs.Common.{◌≡◌, List, [], ◌∷◌, ◌++◌, map, Ok, Err, sym, ap, ◌∙◌}
use Rattle.std.proofs.lemmas.List.{map_push}
use Rattle.refusals.specs.Checks.{Check, judged, within}
use Rattle.refusals.proofs.Judged.{judged_value, judged_within_err, judged_within_ok}

-- what a list stands for, once one more is pushed that stands for b
map_grown : {X B Y : Type 0} (of : B → Y) (view : X → B) (xs ys : List X) (x : X) (b : B) → ys ≡ xs ++ x ∷ [] → view x ≡ b → map (λ t. of (view t)) ys ≡ map (λ t. of (view t)) xs ++ of b ∷ []
map_grown of view xs ys x b pushed seen =
    ap (map (λ t. of (view t))) pushed ∙ map_push (λ t. of (view t)) xs x
    ∙ ap (λ v. map (λ t. of (view t)) xs ++ of v ∷ []) seen

-- what is made of the list, once one more is pushed that passed its checks as what stands for b
pub part_kept : {X B Y Z F G : Type 0} (make : List Y → Z) (of : B → Y) (view : X → B) (wider : F → G) (cs : List (Check F)) (xs ys : List X) (x : X) (b : B) → ys ≡ xs ++ x ∷ [] → judged cs b ≡ Ok (view x) → Ok (make (map (λ t. of (view t)) ys)) ≡ judged (within wider cs) (make (map (λ t. of (view t)) xs ++ of b ∷ []))
part_kept make of view wider cs xs ys x b pushed passed =
    ap (λ part. Ok (make part)) (map_grown of view xs ys x b pushed (judged_value cs b (view x) passed))
    ∙ sym (judged_within_ok b (make (map (λ t. of (view t)) xs ++ of b ∷ [])) wider cs (view x) passed)

-- and where the checks refuse it
pub part_refused : {B Z F G : Type 0} (wider : F → G) (cs : List (Check F)) (b : B) (z : Z) (e : F) → judged cs b ≡ Err e → Err (wider e) ≡ judged (within wider cs) z
part_refused wider cs b z e refused = sym (judged_within_err b z wider cs e refused)
