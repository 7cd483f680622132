-- The listing of the sample file, worked out choice by choice.
use Rattle.std.proofs.Common.{◌≡◌, ℕ, Bool, true, false, ◌||◌, Some, None, refl, sym, ap, ap₂, ◌∙◌, arith}
use Rattle.std.specs.List.{find}
use Rattle.assignment.specs.Knows.{knows}
use Rattle.assignment.specs.Lattice.{contradiction, inconsistent, join, no_from, put, same, unknown, whole}
use Rattle.assignment.specs.Laws.{masks_equal}
use Rattle.assignment.specs.declared.assignment.Assignment.{Assignment}
use Rattle.file_enquiry.specs.Worked.{sample_rule, sample_start, sample_tree}
use Rattle.folders.specs.Folders.{stack}
use Rattle.listing.specs.SellingOrder.{selling_order}
use Rattle.listing.proofs.OrderLaws.{selling_order_once}
use Rattle.listing.proofs.Running.{tree_choice_at, tree_leaf_at}
use Rattle.ruleformat.specs.Sample.{sample_contents}
use Rattle.ruleset.specs.Closure.{closure}
use Rattle.ruleset.specs.Meaning.{lawful_rule, LawfulRule}
use Rattle.ruleset.specs.Tree.{choice, leaf, Tree, tree, unknown as unknown_in}
use Rattle.ruleset.proofs.ClosureLaws.{closure_last, closure_more}
use Rattle.rulestack.proofs.SheetsAllow.{file_lawful}
use Rattle.sheet_rules.specs.Agreement.{agreeing, agrees}
use Rattle.sheet_rules.specs.ClauseReply.{add_clauses, clauses_reply}
use Rattle.sheet_rules.specs.Lost.{left}
use Rattle.sheet_rules.specs.Shared.{add_shared, all_say}
use Rattle.sheet_rules.specs.TableReply.{table_reply}

rule_lawful : LawfulRule sample_rule
rule_lawful = lawful_rule (file_lawful sample_contents) 0

-- where the rule adds nothing, and where it adds something
rests : (a : Assignment) → a ≡ sample_rule a → true ≡ (inconsistent a || same a a) → whole a ≡ a → closure sample_rule a ≡ a
rests a e last calm = sym (closure_last sample_rule rule_lawful a a e last) ∙ calm

adds : (a b c : Assignment) → b ≡ sample_rule a → false ≡ (inconsistent b || same b a) → closure sample_rule b ≡ c → closure sample_rule a ≡ c
adds a b c e more rest = sym (closure_more sample_rule rule_lawful a b e more).closed ∙ rest

-- what is known on the way
abbrev start : Assignment
start = record { yes = 0; no = 18446744073709551600; fits = (omega arith, omega arith) }

abbrev chosen_0 : Assignment
chosen_0 = record { yes = 1; no = 18446744073709551600; fits = (omega arith, omega arith) }

abbrev with_0 : Assignment
with_0 = record { yes = 3; no = 18446744073709551600; fits = (omega arith, omega arith) }

abbrev chosen_0_2 : Assignment
chosen_0_2 = record { yes = 7; no = 18446744073709551600; fits = (omega arith, omega arith) }

abbrev yyyy : Assignment
yyyy = record { yes = 15; no = 18446744073709551600; fits = (omega arith, omega arith) }

abbrev yyyn : Assignment
yyyn = record { yes = 7; no = 18446744073709551608; fits = (omega arith, omega arith) }

abbrev without_2 : Assignment
without_2 = record { yes = 3; no = 18446744073709551604; fits = (omega arith, omega arith) }

abbrev yyny : Assignment
yyny = record { yes = 11; no = 18446744073709551604; fits = (omega arith, omega arith) }

abbrev without_0 : Assignment
without_0 = record { yes = 0; no = 18446744073709551601; fits = (omega arith, omega arith) }

abbrev with_1 : Assignment
with_1 = record { yes = 2; no = 18446744073709551601; fits = (omega arith, omega arith) }

abbrev with_1_2 : Assignment
with_1_2 = record { yes = 6; no = 18446744073709551601; fits = (omega arith, omega arith) }

abbrev nyyy : Assignment
nyyy = record { yes = 14; no = 18446744073709551601; fits = (omega arith, omega arith) }

abbrev nyyn : Assignment
nyyn = record { yes = 6; no = 18446744073709551609; fits = (omega arith, omega arith) }

abbrev with_1_no_2 : Assignment
with_1_no_2 = record { yes = 2; no = 18446744073709551605; fits = (omega arith, omega arith) }

abbrev nyny : Assignment
nyny = record { yes = 10; no = 18446744073709551605; fits = (omega arith, omega arith) }

abbrev without_0_1 : Assignment
without_0_1 = record { yes = 0; no = 18446744073709551603; fits = (omega arith, omega arith) }

abbrev no_2 : Assignment
no_2 = record { yes = 0; no = 18446744073709551607; fits = (omega arith, omega arith) }

abbrev nnny : Assignment
nnny = record { yes = 8; no = 18446744073709551607; fits = (omega arith, omega arith) }

-- closures

rests_start : closure sample_rule start ≡ start
unfolding knows contradiction inconsistent join no_from put same unknown agreeing agrees add_clauses clauses_reply left add_shared all_say table_reply stack
rests_start = rests start (masks_equal _ _ refl refl) refl refl

rests_with_0 : closure sample_rule with_0 ≡ with_0
unfolding knows contradiction inconsistent join no_from put same unknown agreeing agrees add_clauses clauses_reply left add_shared all_say table_reply stack
rests_with_0 = rests with_0 (masks_equal _ _ refl refl) refl refl

adds_chosen_0 : closure sample_rule chosen_0 ≡ with_0
unfolding knows contradiction inconsistent join no_from put same unknown agreeing agrees add_clauses clauses_reply left add_shared all_say table_reply stack
adds_chosen_0 = adds chosen_0 with_0 with_0 (masks_equal _ _ refl refl) refl rests_with_0

rests_chosen_0_2 : closure sample_rule chosen_0_2 ≡ chosen_0_2
unfolding knows contradiction inconsistent join no_from put same unknown agreeing agrees add_clauses clauses_reply left add_shared all_say table_reply stack
rests_chosen_0_2 = rests chosen_0_2 (masks_equal _ _ refl refl) refl refl

rests_yyyy : closure sample_rule yyyy ≡ yyyy
unfolding knows contradiction inconsistent join no_from put same unknown agreeing agrees add_clauses clauses_reply left add_shared all_say table_reply stack
rests_yyyy = rests yyyy (masks_equal _ _ refl refl) refl refl

rests_yyyn : closure sample_rule yyyn ≡ yyyn
unfolding knows contradiction inconsistent join no_from put same unknown agreeing agrees add_clauses clauses_reply left add_shared all_say table_reply stack
rests_yyyn = rests yyyn (masks_equal _ _ refl refl) refl refl

rests_yyny : closure sample_rule yyny ≡ yyny
unfolding knows contradiction inconsistent join no_from put same unknown agreeing agrees add_clauses clauses_reply left add_shared all_say table_reply stack
rests_yyny = rests yyny (masks_equal _ _ refl refl) refl refl

adds_without_2 : closure sample_rule without_2 ≡ yyny
unfolding knows contradiction inconsistent join no_from put same unknown agreeing agrees add_clauses clauses_reply left add_shared all_say table_reply stack
adds_without_2 = adds without_2 yyny yyny (masks_equal _ _ refl refl) refl rests_yyny

rests_without_0 : closure sample_rule without_0 ≡ without_0
unfolding knows contradiction inconsistent join no_from put same unknown agreeing agrees add_clauses clauses_reply left add_shared all_say table_reply stack
rests_without_0 = rests without_0 (masks_equal _ _ refl refl) refl refl

rests_with_1 : closure sample_rule with_1 ≡ with_1
unfolding knows contradiction inconsistent join no_from put same unknown agreeing agrees add_clauses clauses_reply left add_shared all_say table_reply stack
rests_with_1 = rests with_1 (masks_equal _ _ refl refl) refl refl

rests_with_1_2 : closure sample_rule with_1_2 ≡ with_1_2
unfolding knows contradiction inconsistent join no_from put same unknown agreeing agrees add_clauses clauses_reply left add_shared all_say table_reply stack
rests_with_1_2 = rests with_1_2 (masks_equal _ _ refl refl) refl refl

rests_nyyy : closure sample_rule nyyy ≡ nyyy
unfolding knows contradiction inconsistent join no_from put same unknown agreeing agrees add_clauses clauses_reply left add_shared all_say table_reply stack
rests_nyyy = rests nyyy (masks_equal _ _ refl refl) refl refl

rests_nyyn : closure sample_rule nyyn ≡ nyyn
unfolding knows contradiction inconsistent join no_from put same unknown agreeing agrees add_clauses clauses_reply left add_shared all_say table_reply stack
rests_nyyn = rests nyyn (masks_equal _ _ refl refl) refl refl

rests_nyny : closure sample_rule nyny ≡ nyny
unfolding knows contradiction inconsistent join no_from put same unknown agreeing agrees add_clauses clauses_reply left add_shared all_say table_reply stack
rests_nyny = rests nyny (masks_equal _ _ refl refl) refl refl

adds_with_1_no_2 : closure sample_rule with_1_no_2 ≡ nyny
unfolding knows contradiction inconsistent join no_from put same unknown agreeing agrees add_clauses clauses_reply left add_shared all_say table_reply stack
adds_with_1_no_2 = adds with_1_no_2 nyny nyny (masks_equal _ _ refl refl) refl rests_nyny

rests_nnny : closure sample_rule nnny ≡ nnny
unfolding knows contradiction inconsistent join no_from put same unknown agreeing agrees add_clauses clauses_reply left add_shared all_say table_reply stack
rests_nnny = rests nnny (masks_equal _ _ refl refl) refl refl

adds_no_2 : closure sample_rule no_2 ≡ nnny
unfolding knows contradiction inconsistent join no_from put same unknown agreeing agrees add_clauses clauses_reply left add_shared all_say table_reply stack
adds_no_2 = adds no_2 nnny nnny (masks_equal _ _ refl refl) refl rests_nnny

adds_without_0_1 : closure sample_rule without_0_1 ≡ nnny
unfolding knows contradiction inconsistent join no_from put same unknown agreeing agrees add_clauses clauses_reply left add_shared all_say table_reply stack
adds_without_0_1 = adds without_0_1 no_2 nnny (masks_equal _ _ refl refl) refl adds_no_2

-- the tree

abbrev tree_of : Assignment → Tree
tree_of a = tree sample_rule selling_order a

at_leaf : (a : Assignment) → inconsistent a ≡ false → find (unknown_in a) selling_order ≡ None → tree_of a ≡ leaf a
at_leaf a i e = tree_leaf_at sample_rule rule_lawful selling_order selling_order_once.below a i e

side : (o : ℕ) (v : Bool) (a b c : Assignment) (t : Tree) → put o v a ≡ b → closure sample_rule b ≡ c → tree_of c ≡ t → tree_of (closure sample_rule (put o v a)) ≡ t
side o v a b c t e f g = ap (λ x. tree_of (closure sample_rule x)) e ∙ ap tree_of f ∙ g

at_choice : (o : ℕ) (a : Assignment) (y n : Tree) → inconsistent a ≡ false → find (unknown_in a) selling_order ≡ Some o → tree_of (closure sample_rule (put o true a)) ≡ y → tree_of (closure sample_rule (put o false a)) ≡ n → tree_of a ≡ choice o y n
at_choice o a y n i e p q =
    tree_choice_at sample_rule rule_lawful selling_order selling_order_once.below a i o e ∙ ap₂ (choice o) p q

leaf_yyyy : tree_of yyyy ≡ leaf yyyy
unfolding knows inconsistent selling_order
leaf_yyyy = at_leaf yyyy refl refl

leaf_yyyn : tree_of yyyn ≡ leaf yyyn
unfolding knows inconsistent selling_order
leaf_yyyn = at_leaf yyyn refl refl

leaf_yyny : tree_of yyny ≡ leaf yyny
unfolding knows inconsistent selling_order
leaf_yyny = at_leaf yyny refl refl

leaf_nyyy : tree_of nyyy ≡ leaf nyyy
unfolding knows inconsistent selling_order
leaf_nyyy = at_leaf nyyy refl refl

leaf_nyyn : tree_of nyyn ≡ leaf nyyn
unfolding knows inconsistent selling_order
leaf_nyyn = at_leaf nyyn refl refl

leaf_nyny : tree_of nyny ≡ leaf nyny
unfolding knows inconsistent selling_order
leaf_nyny = at_leaf nyny refl refl

leaf_nnny : tree_of nnny ≡ leaf nnny
unfolding knows inconsistent selling_order
leaf_nnny = at_leaf nnny refl refl

tree_0_2 : tree_of chosen_0_2 ≡ choice 3 (leaf yyyy) (leaf yyyn)
unfolding knows inconsistent put selling_order
tree_0_2 =
    at_choice 3 chosen_0_2 (leaf yyyy) (leaf yyyn) refl refl
    (side 3 true chosen_0_2 yyyy yyyy (leaf yyyy) (masks_equal _ _ refl refl) rests_yyyy leaf_yyyy)
    (side 3 false chosen_0_2 yyyn yyyn (leaf yyyn) (masks_equal _ _ refl refl) rests_yyyn leaf_yyyn)

tree_0 : tree_of with_0 ≡ choice 2 (choice 3 (leaf yyyy) (leaf yyyn)) (leaf yyny)
unfolding knows inconsistent put selling_order
tree_0 =
    at_choice 2 with_0 (choice 3 (leaf yyyy) (leaf yyyn)) (leaf yyny) refl refl
    (side 2 true with_0 chosen_0_2 chosen_0_2 (choice 3 (leaf yyyy) (leaf yyyn)) (masks_equal _ _ refl refl) rests_chosen_0_2 tree_0_2)
    (side 2 false with_0 without_2 yyny (leaf yyny) (masks_equal _ _ refl refl) adds_without_2 leaf_yyny)

tree_1_2 : tree_of with_1_2 ≡ choice 3 (leaf nyyy) (leaf nyyn)
unfolding knows inconsistent put selling_order
tree_1_2 =
    at_choice 3 with_1_2 (leaf nyyy) (leaf nyyn) refl refl
    (side 3 true with_1_2 nyyy nyyy (leaf nyyy) (masks_equal _ _ refl refl) rests_nyyy leaf_nyyy)
    (side 3 false with_1_2 nyyn nyyn (leaf nyyn) (masks_equal _ _ refl refl) rests_nyyn leaf_nyyn)

tree_1 : tree_of with_1 ≡ choice 2 (choice 3 (leaf nyyy) (leaf nyyn)) (leaf nyny)
unfolding knows inconsistent put selling_order
tree_1 =
    at_choice 2 with_1 (choice 3 (leaf nyyy) (leaf nyyn)) (leaf nyny) refl refl
    (side 2 true with_1 with_1_2 with_1_2 (choice 3 (leaf nyyy) (leaf nyyn)) (masks_equal _ _ refl refl) rests_with_1_2 tree_1_2)
    (side 2 false with_1 with_1_no_2 nyny (leaf nyny) (masks_equal _ _ refl refl) adds_with_1_no_2 leaf_nyny)

tree_no_0 : tree_of without_0 ≡ choice 1 (choice 2 (choice 3 (leaf nyyy) (leaf nyyn)) (leaf nyny)) (leaf nnny)
unfolding knows inconsistent put selling_order
tree_no_0 =
    at_choice 1 without_0 (choice 2 (choice 3 (leaf nyyy) (leaf nyyn)) (leaf nyny)) (leaf nnny) refl refl
    (side 1 true without_0 with_1 with_1 (choice 2 (choice 3 (leaf nyyy) (leaf nyyn)) (leaf nyny)) (masks_equal _ _ refl refl) rests_with_1 tree_1)
    (side 1 false without_0 without_0_1 nnny (leaf nnny) (masks_equal _ _ refl refl) adds_without_0_1 leaf_nnny)

tree_start : tree_of start ≡ choice 0 (choice 2 (choice 3 (leaf yyyy) (leaf yyyn)) (leaf yyny)) (choice 1 (choice 2 (choice 3 (leaf nyyy) (leaf nyyn)) (leaf nyny)) (leaf nnny))
unfolding knows inconsistent put selling_order
tree_start =
    at_choice 0 start (choice 2 (choice 3 (leaf yyyy) (leaf yyyn)) (leaf yyny)) (choice 1 (choice 2 (choice 3 (leaf nyyy) (leaf nyyn)) (leaf nyny)) (leaf nnny)) refl refl
    (side 0 true start chosen_0 with_0 (choice 2 (choice 3 (leaf yyyy) (leaf yyyn)) (leaf yyny)) (masks_equal _ _ refl refl) adds_chosen_0 tree_0)
    (side 0 false start without_0 without_0 (choice 1 (choice 2 (choice 3 (leaf nyyy) (leaf nyyn)) (leaf nyny)) (leaf nnny)) (masks_equal _ _ refl refl) rests_without_0 tree_no_0)

pub sample_tree_is : sample_tree ≡ choice 0 (choice 2 (choice 3 (leaf yyyy) (leaf yyyn)) (leaf yyny)) (choice 1 (choice 2 (choice 3 (leaf nyyy) (leaf nyyn)) (leaf nyny)) (leaf nnny))
unfolding no_from unknown
sample_tree_is =
    let from : sample_start ≡ start = masks_equal sample_start start refl refl in
    ap (λ a. tree_of (closure sample_rule a)) from ∙ ap tree_of rests_start ∙ tree_start
