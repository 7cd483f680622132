-- The worked examples of the entries, each by computing.
use Rattle.std.proofs.Common.{◌≡◌, ℕ, ◌^◌, true, List, refl}
use Rattle.assignment.specs.Knows.{knows}
use Rattle.assignment.specs.Lattice.{contradiction, equate, inconsistent, join, known_outside, meet, no_from, outside, put, same, total, unknown, within}
use Rattle.assignment.specs.Masks.{moved}
use Rattle.assignment.specs.Options.{options_below}
use Rattle.assignment.specs.declared.assignment.Assignment.{Assignment}
use Rattle.entries.specs.declared.entry.Entry.TheVariants.{Product, Either, Selection, Projection, Complement, None}
use Rattle.ruleset.specs.Fillings.{fills}
use Rattle.sheet_rules.specs.Agreement.{agreeing, agrees}
use Rattle.sheet_rules.specs.ClauseReply.{add_clauses, clauses_reply}
use Rattle.sheet_rules.specs.Lost.{left}
use Rattle.sheet_rules.specs.Shared.{add_shared, all_say}
use Rattle.sheet_rules.specs.TableReply.{table_reply}
use Rattle.rulestack.specs.AlgebraExamples.{AlgebraExamples, alike, anything, complement, either, either_way, equal, Example, first, hide, implied, Module, nothing, numbers, product, second, unlike}
use Rattle.rulestack.proofs.ExamplesWorked.{clauses_sound, judged_by, judges_so, over_sound, replied_by, replies_so, Sound, table_sound}

worked : (m : Module) → Sound m → (options : ℕ) (replies : List (Assignment × Assignment)) (allowed : List ℕ) → replies_so m replies ≡ true → judges_so m allowed (numbers (2 ^ options)) ≡ true → Example m options replies allowed
worked m s options replies allowed e f =
    record { replied = replied_by m replies e; judged = judged_by m s allowed (numbers (2 ^ options)) f }

product_sound : (m n : Module) → Sound m → Sound n → Sound (product m n)
product_sound m n sm sn = over_sound (Product 0 1) m n sm sn

either_sound : (m n : Module) → Sound m → Sound n → Sound (either m n)
either_sound m n sm sn = over_sound (Either 0 1) m n sm sn

complement_sound : (m : Module) → Sound m → Sound (complement m)
complement_sound m s = over_sound (Complement 0) m m s s

hide_sound : (o : ℕ) (m : Module) → Sound m → Sound (hide o m)
hide_sound o m s = over_sound (Projection 0 (2 ^ o)) m m s s

equal_sound : (left right width : ℕ) (m : Module) → Sound m → Sound (equal left right width m)
equal_sound left right width m s = over_sound (Selection 0 left right width) m m s s

first_sound : Sound first
first_sound = table_sound _

second_sound : Sound second
second_sound = table_sound _

alike_sound : Sound alike
alike_sound = table_sound _

unlike_sound : Sound unlike
unlike_sound = table_sound _

implied_sound : Sound implied
implied_sound = clauses_sound _

either_way_sound : Sound either_way
either_way_sound = clauses_sound _

anything_sound : Sound anything
anything_sound = clauses_sound _

nothing_sound : Sound nothing
nothing_sound = over_sound None anything anything anything_sound anything_sound

pub answered : AlgebraExamples
unfolding knows contradiction equate inconsistent join known_outside meet no_from outside put same total unknown within moved options_below fills agreeing agrees add_clauses clauses_reply left add_shared all_say table_reply
answered =
    record {
      product_joins = worked _ (product_sound _ _ first_sound second_sound) _ _ _ refl refl;
      product_with_itself = worked _ (product_sound _ _ first_sound first_sound) _ _ _ refl refl;
      product_without_models = worked _ (product_sound _ _ alike_sound unlike_sound) _ _ _ refl refl;
      either_meets = worked _ (either_sound _ _ first_sound second_sound) _ _ _ refl refl;
      either_one_refuses = worked _ (either_sound _ _ second_sound first_sound) _ _ _ refl refl;
      either_both_refuse =
          worked _ (either_sound _ _ (equal_sound 0 1 1 _ anything_sound) (equal_sound 2 3 1 _ anything_sound)) _ _ _ refl refl;
      either_with_nothing = worked _ (either_sound _ _ first_sound nothing_sound) _ _ _ refl refl;
      complement_adds_nothing = worked _ (complement_sound _ first_sound) _ _ _ refl refl;
      complement_twice = worked _ (complement_sound _ (complement_sound _ first_sound)) _ _ _ refl refl;
      complement_of_selection = worked _ (complement_sound _ (equal_sound 0 2 1 _ implied_sound)) _ _ _ refl refl;
      de_morgan = (
        worked _ (complement_sound _ (either_sound _ _ first_sound second_sound)) _ _ _ refl refl,
        worked _ (product_sound _ _ (complement_sound _ first_sound) (complement_sound _ second_sound)) _ _ _ refl refl,
      );
      projection_forgets = worked _ (hide_sound 1 _ first_sound) _ _ _ refl refl;
      projection_searches = worked _ (hide_sound 1 _ either_way_sound) _ _ _ refl refl;
      selection_copies = (
        worked _ (equal_sound 0 2 1 _ implied_sound) _ _ _ refl refl,
        worked _ (equal_sound 0 2 2 _ anything_sound) _ _ _ refl refl,
      );
      projection_of_product = (
        worked _ (hide_sound 1 _ (product_sound _ _ alike_sound unlike_sound)) _ _ _ refl refl,
        worked _ (product_sound _ _ (hide_sound 1 _ alike_sound) (hide_sound 1 _ unlike_sound)) _ _ _ refl refl,
      );
      projection_of_complement = (
        worked _ (hide_sound 1 _ (complement_sound _ first_sound)) _ _ _ refl refl,
        worked _ (complement_sound _ (hide_sound 1 _ first_sound)) _ _ _ refl refl,
      );
    }
