-- Adding what the rows share goes by what they have in common.
use Rattle.std.proofs.Common.{◌≡◌, ℕ, Bool, true, false, cond, not, ◌&&◌, ◌||◌, List, [], ◌∷◌, map, Some, None, Option, sym, refl, ap, ◌∙◌, ap₂}
use mathlib.Core.Bool.{beq}
use lib.Bits.{bit_and, bit_or, and_shr, or_shr}
use Rattle.assignment.specs.Masks.{has_and, has_or}
use Rattle.assignment.specs.declared.assignment.Assignment.{Assignment}
use Rattle.sheet_rules.specs.Agreement.{agreeing, agrees, has_first, odd}
use Rattle.sheet_rules.specs.Gathered.{add_common, gathered, halved, reply_with, with_row}
use Rattle.sheet_rules.specs.Shared.{add_shared, all_say, half, put_if}
use Rattle.sheet_rules.specs.TableReply.{reply_by}
use Rattle.sheet_rules.specs.declared.common.Common.{Common}

-- what these and more rows have in common
abbrev more : Common → List ℕ → Common
more c [] = c
more c (row ∷ rows) = more (with_row (Some c) row) rows

gathered_more : (c : Common) (rows : List ℕ) → gathered (Some c) rows ≡ Some (more c rows)
unfolding gathered
gathered_more c [] = refl
gathered_more c (row ∷ rows) = gathered_more (with_row (Some c) row) rows

odd_and : (x y : ℕ) → odd (bit_and x y) ≡ (odd x && odd y)
odd_and x y = sym (has_first (bit_and x y)) ∙ has_and x y 0 ∙ ap₂ ◌&&◌ (has_first x) (has_first y)

odd_or : (x y : ℕ) → odd (bit_or x y) ≡ (odd x || odd y)
odd_or x y = sym (has_first (bit_or x y)) ∙ has_or x y 0 ∙ ap₂ ◌||◌ (has_first x) (has_first y)

every_odd : (c : Common) (rows : List ℕ) → odd (more c rows).every ≡ (odd c.every && all_say true rows)
unfolding all_say
every_odd c [] = whole (odd c.every)
  where
    whole : (p : Bool) → p ≡ (p && true)
    whole true = refl
    whole false = refl
every_odd c (row ∷ rows) =
    every_odd (with_row (Some c) row) rows ∙ ap (λ p. p && all_say true rows) (odd_and c.every row)
    ∙ regroup (odd c.every) (odd row) (all_say true rows)
  where
    regroup : (p q r : Bool) → ((p && q) && r) ≡ (p && (beq q true && r))
    regroup true true r = refl
    regroup true false r = refl
    regroup false q r = refl

some_odd : (c : Common) (rows : List ℕ) → not (odd (more c rows).some) ≡ (not (odd c.some) && all_say false rows)
unfolding all_say
some_odd c [] = whole (not (odd c.some))
  where
    whole : (p : Bool) → p ≡ (p && true)
    whole true = refl
    whole false = refl
some_odd c (row ∷ rows) =
    some_odd (with_row (Some c) row) rows ∙ ap (λ p. not p && all_say false rows) (odd_or c.some row)
    ∙ regroup (odd c.some) (odd row) (all_say false rows)
  where
    regroup : (p q r : Bool) → (not (p || q) && r) ≡ (not p && (beq q false && r))
    regroup true q r = refl
    regroup false true r = refl
    regroup false false r = refl

more_halved : (c : Common) (rows : List ℕ) → halved (more c rows) ≡ more (halved c) (map half rows)
more_halved c [] = refl
more_halved c (row ∷ rows) =
    more_halved (with_row (Some c) row) rows
    ∙ ap (λ d. more d (map half rows))
    (λ i. record { every = and_shr c.every row 1 i; some = or_shr c.some row 1 i })

shared_common : (cs : List ℕ) (row : ℕ) (rows : List ℕ) (a : Assignment) → add_shared cs (row ∷ rows) a ≡ add_common cs (more (with_row None row) rows) a
unfolding add_shared add_common all_say
shared_common [] row rows a = refl
shared_common (c ∷ cs) row rows a =
    shared_common cs (half row) (map half rows) _
    ∙ ap (λ d. add_common cs d (first (all_say true (row ∷ rows)) (all_say false (row ∷ rows))))
    (sym (more_halved (with_row None row) rows))
    ∙ ap₂ (λ p q. add_common cs (halved (more (with_row None row) rows)) (first p q)) every some
  where
    first : Bool → Bool → Assignment
    first p q = put_if q c false (put_if p c true a)

    alone : (p r : Bool) → (beq p true && r) ≡ (p && r)
    alone true r = refl
    alone false r = refl

    without : (p r : Bool) → (beq p false && r) ≡ (not p && r)
    without true r = refl
    without false r = refl

    every : all_say true (row ∷ rows) ≡ odd (more (with_row None row) rows).every
    every = alone (odd row) (all_say true rows) ∙ sym (every_odd (with_row None row) rows)

    some : all_say false (row ∷ rows) ≡ not (odd (more (with_row None row) rows).some)
    some = without (odd row) (all_say false rows) ∙ sym (some_odd (with_row None row) rows)

pub reply_gathered : (cs rows : List ℕ) (a : Assignment) → reply_by cs rows a ≡ reply_with cs (gathered None rows) a
unfolding gathered
reply_gathered cs [] a = refl
reply_gathered cs (row ∷ rows) a =
    shared_common cs row rows a ∙ ap (λ c. reply_with cs c a) (sym (gathered_more (with_row None row) rows))

-- one row more is gathered if it agrees
pub gathered_step : (cs : List ℕ) (a : Assignment) (c : Option Common) (row : ℕ) (rows : List ℕ) → gathered c (agreeing cs (row ∷ rows) a) ≡ gathered (cond (agrees cs row a) (Some (with_row c row)) c) (agreeing cs rows a)
unfolding gathered agreeing
gathered_step cs a c row rows = go (agrees cs row a)
  where
    go : (b : Bool) → gathered c (cond b (row ∷ agreeing cs rows a) (agreeing cs rows a)) ≡ gathered (cond b (Some (with_row c row)) c) (agreeing cs rows a)
    go true = refl
    go false = refl
