-- By computing.
use Rattle.std.proofs.Common.{map, refl, ap}
use Rattle.assignment.specs.Knows.{knows}
use Rattle.assignment.specs.Lattice.{contradiction, inconsistent, join, known_outside, meet, outside, put, same, total, unknown, within}
use Rattle.assignment.specs.Laws.{masks_equal}
use Rattle.assignment.specs.Options.{options_below}
use Rattle.listing.specs.SellingOrder.{selling_order}
use Rattle.file_enquiry.proofs.SampleListing.{sample_tree_is}
use Rattle.listing.specs.Moves.{build_of}
use Rattle.ruleset.specs.Tree.{choices, leaves}
use Rattle.ruleset.specs.Fillings.{fills}
use Rattle.sheet_rules.specs.Agreement.{agreeing, agrees}
use Rattle.sheet_rules.specs.ClauseReply.{add_clauses, clauses_reply}
use Rattle.sheet_rules.specs.Lost.{left}
use Rattle.sheet_rules.specs.Shared.{add_shared, all_say}
use Rattle.sheet_rules.specs.TableReply.{table_reply}
use Rattle.file_enquiry.proofs.laws.worked_examples.Goals as goal

pub returns : goal.returns
unfolding knows contradiction selling_order inconsistent join known_outside meet outside put same total unknown within options_below fills agreeing agrees add_clauses clauses_reply left add_shared all_say table_reply
returns c =
    record {
      table_adds = masks_equal _ _ refl refl;
      table_contradicts = masks_equal _ _ refl refl;
      clauses_add = masks_equal _ _ refl refl;
      either_contradicts = masks_equal _ _ refl refl;
      complement_keeps = masks_equal _ _ refl refl;
      projection_keeps = masks_equal _ _ refl refl;
      chosen_first = refl;
      sample_lists = ap (λ t. map build_of (leaves t)) sample_tree_is;
      sample_chooses = ap choices sample_tree_is;
    }
