-- A start's body that passes its checks is the encoding of its options and masks.
use Rattle.std.proofs.Common.{◌≡◌, ℕ, ◌^◌, ◌<◌, ◌≤◌, eqb, List, [], ◌∷◌, ◌++◌, length, take, drop, ap, ◌∙◌, arith}
use lib.Bits.{bit_and}
use Rattle.std.proofs.lemmas.List.{length-drop, take_all, take-append-drop}
use Rattle.std.proofs.lemmas.Bool.{eqb-false, eqb-true, leb-false, ltb-false, not-false}
use Rattle.ruleformat.specs.Bytes.{number}
use Rattle.ruleformat.specs.Contents.{nothing}
use Rattle.ruleformat.specs.Encoding.{bytes_of, start_body}
use Rattle.ruleformat.specs.Laws.{Byte}
use Rattle.ruleformat.specs.Starts.{no_mask, start_checks, start_options, with_start, yes_mask}
use Rattle.ruleformat.specs.WellFormed.{Each}
use Rattle.ruleformat.proofs.Each.{each_drop}
use Rattle.ruleformat.proofs.Numbers.{number_in}
use Rattle.refusals.proofs.Passing.{Passing}

pub record StartFits (n yes no : ℕ) : Type 0 where
  pub some_option : 1 ≤ n
  pub few_options : n ≤ 64
  pub yes_within : yes < 2 ^ n
  pub no_within : no < 2 ^ n
  pub consistent : bit_and yes no ≡ 0

masks_encoded : (bs : List ℕ) → length bs ≡ 16 → Each Byte bs → bytes_of 8 (number (take 8 bs)) ++ bytes_of 8 (number (take 8 (drop 8 bs))) ≡ bs
masks_encoded bs l h =
    let s : length (drop 8 bs) ≡ 8 = omega (arith, length-drop 8 bs) in
    ap (λ ys. ys ++ bytes_of 8 (number (take 8 (drop 8 bs)))) (number_in 8 bs (omega arith) h)
    ∙ ap (λ ys. take 8 bs ++ ys) (number_in 8 (drop 8 bs) (omega arith) (each_drop Byte 8 bs h) ∙ take_all 8 (drop 8 bs) (omega arith))
    ∙ take-append-drop 8 bs

start_encoded : (body : List ℕ) → length body ≡ 17 → Each Byte body → start_body (with_start body nothing) ≡ body
start_encoded [] l h = absurd (omega arith)
start_encoded (o ∷ bs) l h = ap (λ ys. o ∷ ys) (masks_encoded bs (omega arith) h.1)

pub start_fits : (place : ℕ) (body : List ℕ) → Each Byte body → Passing (start_checks place body) → StartFits (start_options body) (yes_mask body) (no_mask body) × (start_body (with_start body nothing) ≡ body)
start_fits place body bytes h =
    let some = eqb-false (start_options body) 0 h.1.0 in (
      record {
        some_option = omega arith;
        few_options = ltb-false 64 (start_options body) h.1.1.0;
        yes_within = leb-false (2 ^ start_options body) (yes_mask body) h.1.1.1.0;
        no_within = leb-false (2 ^ start_options body) (no_mask body) h.1.1.1.1.0;
        consistent =
            eqb-true (bit_and (yes_mask body) (no_mask body)) 0
            (not-false (eqb (bit_and (yes_mask body) (no_mask body)) 0) h.1.1.1.1.1.0);
      },
      start_encoded body (eqb-true (length body) 17 (not-false (eqb (length body) 17) h.0)) bytes,
    )
