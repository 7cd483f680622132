-- Checks that all pass: not one of them holds, which is when what they judge is accepted.
use Rattle.std.proofs.Common.{◌≡◌, true, false, cond, is_ok, List, [], ◌∷◌, ◌++◌, Ok, Err, sym, refl}
use Rattle.std.proofs.lemmas.Bool.{both_ways}
use Rattle.refusals.specs.Checks.{Check, judged, within}
use Rattle.refusals.proofs.Judged.{ok_is_no_err}

abbrev pub Passing : {F : Type 0} → List (Check F) → Type 0
Passing [] = Unit {0}
Passing (c ∷ cs) = (c.holds ≡ false) × Passing cs

pub passing_append : {F : Type 0} (cs ds : List (Check F)) → Passing cs → Passing ds → Passing (cs ++ ds)
passing_append [] ds h k = k
passing_append (c ∷ cs) ds h k = (h.0, passing_append cs ds h.1 k)

pub passing_parts : {F : Type 0} (cs ds : List (Check F)) → Passing (cs ++ ds) → Passing cs × Passing ds
passing_parts [] ds h = (tt, h)
passing_parts (c ∷ cs) ds h = ((h.0, (passing_parts cs ds h.1).0), (passing_parts cs ds h.1).1)

-- faults that are put into wider ones make no difference
pub passing_within : {F G : Type 0} (w : F → G) (cs : List (Check F)) → Passing cs → Passing (within w cs)
passing_within w [] h = tt
passing_within w (c ∷ cs) h = (h.0, passing_within w cs h.1)

pub passing_unwrapped : {F G : Type 0} (w : F → G) (cs : List (Check F)) → Passing (within w cs) → Passing cs
passing_unwrapped w [] h = tt
passing_unwrapped w (c ∷ cs) h = (h.0, passing_unwrapped w cs h.1)

pub passing_accepts : {A F : Type 0} (cs : List (Check F)) (a : A) → Passing cs → judged cs a ≡ Ok a
passing_accepts [] a h = refl
passing_accepts (c ∷ cs) a h = rw h.0 (passing_accepts cs a h.1)

pub accepted_passes : {A F : Type 0} (cs : List (Check F)) (a x : A) → judged cs a ≡ Ok x → Passing cs
accepted_passes [] a x h = tt
accepted_passes (c ∷ cs) a x h =
    elim c.holds as (λ t. cond t (Err c.fault) (judged cs a) ≡ Ok x → (t ≡ false) × Passing cs)
    [ true ↦ λ p. absurd (ok_is_no_err (sym p)) | false ↦ λ p. (refl, accepted_passes cs a x p) ] h

pub ok_passes : {A F : Type 0} (cs : List (Check F)) (a : A) → is_ok (judged cs a) ≡ true → Passing cs
ok_passes [] a h = tt
ok_passes (c ∷ cs) a h =
    elim c.holds as (λ t. is_ok (cond t (Err c.fault) (judged cs a)) ≡ true → (t ≡ false) × Passing cs)
    [ true ↦ λ p. absurd (both_ways false refl p) | false ↦ λ p. (refl, ok_passes cs a p) ] h
