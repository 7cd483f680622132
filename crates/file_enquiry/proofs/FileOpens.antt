-- The rules of well-formed contents have the asked rule, so an enquiry on them opens.
use Rattle.std.proofs.Common.{◌≡◌, ℕ, ◌<◌, ◌^◌, not, Ok, bit_and, sym, ap, ap₂, ◌∙◌, subst, arith}
use Rattle.std.proofs.lemmas.Bool.{eq-eqb}
use Rattle.assignment.specs.Lattice.{inconsistent}
use Rattle.assignment.specs.declared.assignment.Assignment.{Assignment}
use Rattle.enquiry.specs.Openings.{opening_verdict}
use Rattle.enquiry.proofs.Opened.{opens_passed, within_masks}
use Rattle.ruleformat.specs.Contents.{Contents}
use Rattle.ruleformat.specs.WellFormed.{WellFormed}
use Rattle.rulestack.specs.FileRules.{file_rules}
use Rattle.rulestack.proofs.Counts.{rules_count}

pub opens : (c : Contents) (start : Assignment) (options rule count : ℕ) → WellFormed c → options ≡ c.options → start.yes ≡ c.start_yes → start.no ≡ c.start_no → rule ≡ c.asked → count ≡ (file_rules c).count → opening_verdict options start rule count ≡ Ok tt
unfolding inconsistent
opens c start options rule count fine n y o r k =
    let yes_within : start.yes < 2 ^ options = subst (λ x. x < 2 ^ options) (sym y) (subst (λ x. c.start_yes < 2 ^ x) (sym n) fine.yes_within) in
    let no_within : start.no < 2 ^ options = subst (λ x. x < 2 ^ options) (sym o) (subst (λ x. c.start_no < 2 ^ x) (sym n) fine.no_within) in
    let apart : bit_and start.yes start.no ≡ 0 = ap₂ bit_and y o ∙ fine.consistent in
    opens_passed options start rule count
    (record {
      some = omega (arith, n, fine.some_option);
      few = omega (arith, n, fine.few_options);
      within = within_masks options start yes_within no_within;
      consistent = ap not (eq-eqb (bit_and start.yes start.no) 0 apart);
      there = subst (λ x. x < count) (sym r) (subst (λ x. c.asked < x) (sym (k ∙ rules_count c fine)) fine.asked_known);
    })
