-- Eight worked examples: six replies, a choice, and a listing.
use Rattle.std.specs.Prelude.{◌≡◌, ℕ, ◌-◌, ◌^◌, Bool, true, false, List, [], ◌∷◌, map, Some}
use Rattle.std.specs.List.{find}
use Rattle.std.proofs.Common.{arith}
use Rattle.assignment.specs.Lattice.{contradiction, no_from, put, unknown}
use Rattle.assignment.specs.declared.assignment.Assignment.{Assignment}
use Rattle.entries.specs.declared.entry.Entry.TheVariants.{Complement, Either, Projection}
use Rattle.folders.specs.Entries.{entry_reply}
use Rattle.ruleformat.specs.Contents.{Table, Wanted}
use Rattle.listing.specs.Moves.{build_of}
use Rattle.listing.specs.SellingOrder.{selling_order}
use Rattle.listing.specs.declared.build.Build.{Build}
use Rattle.ruleformat.specs.Sample.{sample_contents}
use Rattle.ruleset.specs.Closure.{closure}
use Rattle.ruleset.specs.Listed.{Rule}
use Rattle.ruleset.specs.Tree.{choices, leaves, Tree, tree, unknown as unknown_in}
use Rattle.rulestack.specs.FileRules.{file_rules}
use Rattle.sheet_rules.specs.ClauseReply.{clauses_reply}
use Rattle.sheet_rules.specs.TableReply.{table_reply}

-- columns 0 and 1, with the rows no no, no yes and yes yes
abbrev pub table : Table
table = record { columns = 0 ∷ 1 ∷ []; rows = 0 ∷ 2 ∷ 3 ∷ [] }

abbrev wants : ℕ → Wanted
wants o = record { option = o; negated = false }

abbrev wants_not : ℕ → Wanted
wants_not o = record { option = o; negated = true }

-- 2 or 3, and 1 or not 2
abbrev pub clauses : List (List Wanted)
clauses = (wants 2 ∷ wants 3 ∷ []) ∷ (wants 1 ∷ wants_not 2 ∷ []) ∷ []

abbrev pub only : ℕ → Bool → Assignment
only o v = put o v unknown

-- option 0 is yes and every other option is no
abbrev pub build : Assignment
build = record { yes = 1; no = 2 ^ 64 - 2; fits = (omega arith, omega arith) }

-- rule k makes option k inconsistent, and changes nothing else
abbrev pub clashing : ℕ → Rule
clashing k a = put k true (put k false a)

abbrev pub tables : ℕ → Rule
tables k = table_reply table

-- nothing is known of options 0 and 32, and every other option is no
abbrev pub two_unknown : Assignment
two_unknown = record { yes = 0; no = 2 ^ 64 - 2 - 2 ^ 32; fits = (omega arith, omega arith) }

-- the start of the sample file, in which options from 4 on are no, and the tree of its asked rule
abbrev pub sample_start : Assignment
sample_start = no_from 4 unknown

abbrev pub sample_rule : Rule
sample_rule = (file_rules sample_contents).reply 0

abbrev pub sample_tree : Tree
sample_tree = tree sample_rule selling_order (closure sample_rule sample_start)

-- options 0 to 3 are bits 0 to 3
abbrev pub sample_builds : List Build
sample_builds = map (λ n. record { yes = n }) (15 ∷ 7 ∷ 11 ∷ 14 ∷ 6 ∷ 10 ∷ 8 ∷ [])

pub record Worked : Type 0 where
  pub table_adds : table_reply table (only 0 true) ≡ put 1 true (only 0 true)
  pub table_contradicts : table_reply table (put 1 false (only 0 true)) ≡ contradiction
  pub clauses_add : clauses_reply clauses (only 1 false) ≡ put 2 false (only 1 false)
  pub either_contradicts : entry_reply (Either 0 1) clashing unknown ≡ contradiction
  pub complement_keeps : entry_reply (Complement 0) tables build ≡ build
  pub projection_keeps : entry_reply (Projection 0 1) tables build ≡ build
  pub chosen_first : find (unknown_in two_unknown) selling_order ≡ Some 32
  pub sample_lists : map build_of (leaves sample_tree) ≡ sample_builds
  pub sample_chooses : choices sample_tree ≡ 6
