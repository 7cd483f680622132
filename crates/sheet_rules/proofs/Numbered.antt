-- The rules of a list are one for each of its elements.
use Rattle.std.proofs.Common.{◌≡◌, ℕ, ◌<◌, ◌≤◌, min, cond, ◌⊎◌, List, map, length, get_or, ap, ◌∙◌, inl, inr, arith}
use Rattle.std.proofs.lemmas.List.{get_or-map, get_or_past, length-map}
use Rattle.std.proofs.lemmas.Bool.{cases_lt, le-ltb, lt-ltb}
use Rattle.assignment.specs.Lattice.{contradiction}
use Rattle.assignment.specs.declared.assignment.Assignment.{Assignment}
use Rattle.ruleset.specs.Listed.{nothing, Rule}
use Rattle.sheet_rules.specs.ClauseReply.{clauses_reply}
use Rattle.sheet_rules.specs.Laws.{ClausesNumbered, OneEach, TablesNumbered}
use Rattle.sheet_rules.specs.Replies.{rules_of}
use Rattle.sheet_rules.specs.TableReply.{table_reply}

module _ {X : Type 0} (reply : X → Rule) (xs : List X) where
  counted : (rules_of reply xs).count ≡ min 64 (length xs)
  counted = ap (min 64) (length-map xs reply)

  past_end : (k : ℕ) (a : Assignment) → (rules_of reply xs).count ≤ k → (k < 64) ⊎ (64 ≤ k) → (rules_of reply xs).reply k a ≡ contradiction
  past_end k a h (inl l) =
      ap (λ b. cond b (get_or (map reply xs) k nothing) nothing a) (lt-ltb k 64 l)
      ∙ ap (λ f. f a) (get_or_past (map reply xs) k nothing (omega arith))
  past_end k a h (inr l) = ap (λ b. cond b (get_or (map reply xs) k nothing) nothing a) (le-ltb k 64 l)

  one_each : OneEach reply xs (rules_of reply xs)
  one_each =
      record {
        count = counted;
        each =
            λ k x a h l e.
            ap (λ b. cond b (get_or (map reply xs) k nothing) nothing a) (lt-ltb k 64 h)
            ∙ ap (λ f. f a) (get_or-map reply xs k x nothing l) ∙ ap (λ y. reply y a) e;
        past = λ k a h. past_end k a h (cases_lt k 64);
      }

pub tables_numbered : TablesNumbered
tables_numbered ts = one_each table_reply ts

pub clauses_numbered : ClausesNumbered
clauses_numbered ss = one_each clauses_reply ss
