-- An encoded start reads back as the options and the masks, and passes its checks.
use Rattle.std.proofs.Common.{◌≡◌, ℕ, ◌^◌, ◌<◌, ◌≤◌, true, false, eqb, leb, List, [], sym, refl, subst, subst₂, arith, pow_mono}
use lib.Bits.{bit_and}
use Rattle.std.proofs.lemmas.Bool.{eq-eqb, le-ltb, lt-leb, ne_eqb, not_from_true}
use Rattle.entries.specs.declared.entry.Entry.{Entry}
use Rattle.ruleformat.specs.Contents.{Contents, Table, Wanted, nothing}
use Rattle.ruleformat.specs.Encoding.{bytes_of, start_body}
use Rattle.ruleformat.specs.Laws.{Byte}
use Rattle.ruleformat.specs.Starts.{no_mask, start_checks, with_start, yes_mask}
use Rattle.ruleformat.specs.WellFormed.{Each, WellFormed}
use Rattle.ruleformat.proofs.Each.{each_append}
use Rattle.ruleformat.proofs.Numbers.{bytes_each, number_of_bytes}
use Rattle.refusals.proofs.Passing.{Passing}

-- what is held after the start of c, with so many sheets and folders read after it
abbrev pub so_far : Contents → List Table → List (List (List Wanted)) → List (List Entry) → Contents
so_far c ts cs fs =
    record {
      options = c.options;
      start_yes = c.start_yes;
      start_no = c.start_no;
      tables = ts;
      clauses = cs;
      folders = fs;
      asked = 0;
    }

module _ (c : Contents) (fine : WellFormed c) where
  mask_small : (m : ℕ) → m < 2 ^ c.options → m < 256 ^ 8
  mask_small m h = let p : 2 ^ c.options ≤ 2 ^ 64 = pow_mono fine.few_options in omega (arith, p)

  yes_read : yes_mask (start_body c) ≡ c.start_yes
  yes_read = number_of_bytes 8 c.start_yes (mask_small c.start_yes fine.yes_within)

  no_read : no_mask (start_body c) ≡ c.start_no
  no_read = number_of_bytes 8 c.start_no (mask_small c.start_no fine.no_within)

  pub start_read : with_start (start_body c) nothing ≡ so_far c [] [] []
  start_read =
      λ i. record { options = c.options; start_yes = yes_read i; start_no = no_read i; tables = []; clauses = []; folders = []; asked = 0 }

  pub start_passes : (place : ℕ) → Passing (start_checks place (start_body c))
  start_passes place =
      let limit : ℕ = 2 ^ c.options in
      let some = ne_eqb c.options 0 (λ e. omega (arith, fine.some_option)) in
      let few = le-ltb 64 c.options fine.few_options in
      let yes = subst (λ m. leb limit m ≡ false) (sym yes_read) (lt-leb limit c.start_yes fine.yes_within) in
      let no = subst (λ m. leb limit m ≡ false) (sym no_read) (lt-leb limit c.start_no fine.no_within) in
      let apart = subst₂ (λ y n. eqb (bit_and y n) 0 ≡ true) (sym yes_read) (sym no_read) (eq-eqb (bit_and c.start_yes c.start_no) 0 fine.consistent) in
      (refl, (some, (few, (yes, (no, (not_from_true (eqb (bit_and (yes_mask (start_body c)) (no_mask (start_body c))) 0) apart, tt))))))

  pub start_bytes : Each Byte (start_body c)
  start_bytes =
      let small : c.options < 256 = omega (arith, fine.few_options) in
      (small, each_append Byte (bytes_of 8 c.start_yes) (bytes_of 8 c.start_no) (bytes_each 8 c.start_yes) (bytes_each 8 c.start_no))
