-- Laws of judging by a list of checks: the value plays no part in a refusal, and lists of checks follow one another.
use Rattle.std.proofs.Common.{◌≡◌, ℕ, Bool, true, false, cond, List, [], ◌∷◌, ◌++◌, Ok, Err, sym, refl, subst, arith}
use Rattle.refusals.specs.Checks.{Check, First, here, judged, later, when, within}

pub ok_is_no_err : {A F : Type 0} {a : A} {e : F} → Ok a ≡ Err e → ⊥
ok_is_no_err h = let z : ◌≡◌ {A = ℕ} 0 1 = cc in omega arith

module _ {A B F : Type 0} (a : A) (b : B) where
  pub judged_err : (cs : List (Check F)) (e : F) → judged cs a ≡ Err e → judged cs b ≡ Err e
  judged_err [] e h = absurd (ok_is_no_err h)
  judged_err (c ∷ cs) e h =
      elim c.holds as (λ t. cond t (Err c.fault) (judged cs a) ≡ Err e → cond t (Err c.fault) (judged cs b) ≡ Err e)
      [ true ↦ λ p. cc | false ↦ judged_err cs e ] h

  pub judged_ok : (cs : List (Check F)) (x : A) → judged cs a ≡ Ok x → judged cs b ≡ Ok b
  judged_ok [] x h = refl
  judged_ok (c ∷ cs) x h =
      elim c.holds as (λ t. cond t (Err c.fault) (judged cs a) ≡ Ok x → cond t (Err c.fault) (judged cs b) ≡ Ok b)
      [ true ↦ λ p. absurd (ok_is_no_err (sym p)) | false ↦ judged_ok cs x ] h

  -- checks that find nothing leave the judgement to those that follow
  pub judged_passes : (cs ds : List (Check F)) (x : A) → judged cs a ≡ Ok x → judged (cs ++ ds) b ≡ judged ds b
  judged_passes [] ds x h = refl
  judged_passes (c ∷ cs) ds x h =
      elim c.holds as (λ t. cond t (Err c.fault) (judged cs a) ≡ Ok x → cond t (Err c.fault) (judged (cs ++ ds) b) ≡ judged ds b)
      [ true ↦ λ p. absurd (ok_is_no_err (sym p)) | false ↦ judged_passes cs ds x ] h

  -- a fault found is the fault, whatever follows
  pub judged_stops : (cs ds : List (Check F)) (e : F) → judged cs a ≡ Err e → judged (cs ++ ds) b ≡ Err e
  judged_stops [] ds e h = absurd (ok_is_no_err h)
  judged_stops (c ∷ cs) ds e h =
      elim c.holds as (λ t. cond t (Err c.fault) (judged cs a) ≡ Err e → cond t (Err c.fault) (judged (cs ++ ds) b) ≡ Err e)
      [ true ↦ λ p. cc | false ↦ judged_stops cs ds e ] h

  -- the same of checks whose faults are put into wider ones
  pub judged_within_err : {G : Type 0} (w : F → G) (cs : List (Check F)) (e : F) → judged cs a ≡ Err e → judged (within w cs) b ≡ Err (w e)
  judged_within_err w [] e h = absurd (ok_is_no_err h)
  judged_within_err w (c ∷ cs) e h =
      elim c.holds as (λ t. cond t (Err c.fault) (judged cs a) ≡ Err e → cond t (Err (w c.fault)) (judged (within w cs) b) ≡ Err (w e))
      [ true ↦ λ p. let q : c.fault ≡ e = cc in cc | false ↦ judged_within_err w cs e ] h

  pub judged_within_ok : {G : Type 0} (w : F → G) (cs : List (Check F)) (x : A) → judged cs a ≡ Ok x → judged (within w cs) b ≡ Ok b
  judged_within_ok w [] x h = refl
  judged_within_ok w (c ∷ cs) x h =
      elim c.holds as (λ t. cond t (Err c.fault) (judged cs a) ≡ Ok x → cond t (Err (w c.fault)) (judged (within w cs) b) ≡ Ok b)
      [ true ↦ λ p. absurd (ok_is_no_err (sym p)) | false ↦ judged_within_ok w cs x ] h

pub judged_value : {A F : Type 0} (cs : List (Check F)) (a x : A) → judged cs a ≡ Ok x → x ≡ a
judged_value [] a x h = cc
judged_value (c ∷ cs) a x h =
    elim c.holds as (λ t. cond t (Err c.fault) (judged cs a) ≡ Ok x → x ≡ a)
    [ true ↦ λ p. absurd (ok_is_no_err (sym p)) | false ↦ judged_value cs a x ] h

-- where nothing is found, the first check does not hold, and those after it find nothing
pub judged_head : {A F : Type 0} (c : Check F) (cs : List (Check F)) (a x : A) → judged (c ∷ cs) a ≡ Ok x → c.holds ≡ false
judged_head c cs a x h =
    elim c.holds as (λ t. cond t (Err c.fault) (judged cs a) ≡ Ok x → t ≡ false)
    [ true ↦ λ p. absurd (ok_is_no_err (sym p)) | false ↦ λ p. refl ] h

-- a lone check that holds is the first of those that follow it, in a wider fault
pub judged_lone : {A B F G : Type 0} (a : A) (b : B) (w : F → G) (t : Bool) (f e : F) (cs : List (Check G)) → judged (when t f ∷ []) a ≡ Err e → judged (when t (w f) ∷ cs) b ≡ Err (w e)
judged_lone a b w true f e cs h = let q : f ≡ e = cc in cc
judged_lone a b w false f e cs h = absurd (ok_is_no_err h)

pub judged_tail : {A F : Type 0} (c : Check F) (cs : List (Check F)) (a x : A) → judged (c ∷ cs) a ≡ Ok x → judged cs a ≡ Ok x
judged_tail c cs a x h =
    elim c.holds as (λ t. cond t (Err c.fault) (judged cs a) ≡ Ok x → judged cs a ≡ Ok x)
    [ true ↦ λ p. absurd (ok_is_no_err (sym p)) | false ↦ λ p. p ] h

-- the fault that is judged is that of the first check that holds
pub judged_first : {A F : Type 0} (cs : List (Check F)) (a : A) (f : F) → judged cs a ≡ Err f → First cs f
judged_first [] a f h = absurd (ok_is_no_err h)
judged_first (c ∷ cs) a f h = go c.holds refl h (judged_first cs a f)
  where
    go : (t : Bool) → c.holds ≡ t → cond t (Err c.fault) (judged cs a) ≡ Err f → (judged cs a ≡ Err f → First cs f) → First (c ∷ cs) f
    go true e p more = let q : c.fault ≡ f = cc in subst (λ g. First (c ∷ cs) g) q (here e)
    go false e p more = later e (more p)

pub first_judged : {A F : Type 0} (cs : List (Check F)) (a : A) (f : F) → First cs f → judged cs a ≡ Err f
first_judged cs a f (here h) = rw h
first_judged cs a f (later {c = c} {cs = ds} h k) = rw h (first_judged ds a f k)
