-- Examples are worked out by computing with replies; which builds are allowed follows by the laws of entries and sheets.
use Rattle.std.proofs.Common.{◌≡◌, ℕ, zero, suc, Bool, true, false, ◌&&◌, ◌↔◌, List, [], ◌∷◌, sym, ap, ◌∙◌}
use Rattle.std.specs.List.{AllByRecursion}
use Rattle.std.proofs.lemmas.Bool.{and_parts, both_ways}
use Rattle.assignment.specs.Lattice.{inconsistent, same, total, Total}
use Rattle.assignment.specs.Laws.{same_true, total_consistent}
use Rattle.assignment.specs.declared.assignment.Assignment.{Assignment}
use Rattle.entries.specs.declared.entry.Entry.{Entry}
use Rattle.folders.specs.Lawful.{entry_lawful}
use Rattle.folders.proofs.Builds.{entry_builds}
use Rattle.folders.proofs.Stacks.{entry_alike}
use Rattle.ruleformat.specs.Contents.{Table, Wanted}
use Rattle.ruleset.specs.Meaning.{LawfulRule}
use Rattle.rulestack.specs.AlgebraExamples.{allowed_of, build, is_in, Judged, Module, of_clauses, of_table, over, replies_of}
use Rattle.sheet_rules.specs.ClauseReply.{clauses_lawful}
use Rattle.sheet_rules.specs.TableReply.{table_lawful}
use Rattle.sheet_rules.proofs.ClausesAdd.{clauses_allow}
use Rattle.sheet_rules.proofs.TableAdds.{table_allows}

-- the reply keeps a rule's promises, and gives back just the builds that are allowed
pub record Sound (m : Module) : Type 0 where
  pub lawful : LawfulRule m.reply
  pub builds : (b : Assignment) → Total b → (m.reply b ≡ b) ↔ m.allows b

pub table_sound : (t : Table) → Sound (of_table t)
table_sound t = record { lawful = table_lawful t; builds = table_allows t }

pub clauses_sound : (cs : List (List Wanted)) → Sound (of_clauses cs)
clauses_sound cs = record { lawful = clauses_lawful cs; builds = clauses_allow cs }

pub over_sound : (e : Entry) (m n : Module) → Sound m → Sound n → Sound (over e m n)
over_sound e m n sm sn =
    record {
      lawful = entry_lawful e (replies_of m n) each;
      builds =
          λ b t.
          let here = entry_builds e (replies_of m n) each b t in
          let there = entry_alike e (λ k d. replies_of m n k d ≡ d) (allowed_of m n) same_builds b t in
          (λ x. there.0 (here.0 x), λ x. here.1 (there.1 x));
    }
  where
    each : (k : ℕ) → LawfulRule (replies_of m n k)
    each zero = sm.lawful
    each (suc k) = sn.lawful

    same_builds : (k : ℕ) (d : Assignment) → Total d → (replies_of m n k d ≡ d) ↔ allowed_of m n k d
    same_builds zero d t = sm.builds d t
    same_builds (suc k) d t = sn.builds d t

-- whether replies are as they are told
abbrev pub replies_so : Module → List (Assignment × Assignment) → Bool
replies_so m [] = true
replies_so m (p ∷ ps) = same (m.reply p.0) p.1 && replies_so m ps

pub replied_by : (m : Module) (ps : List (Assignment × Assignment)) → replies_so m ps ≡ true → AllByRecursion (λ p. m.reply p.0 ≡ p.1) ps
replied_by m [] e = tt
replied_by m (p ∷ ps) e =
    let parts = and_parts (same (m.reply p.0) p.1) (replies_so m ps) e in
    (same_true (m.reply p.0) p.1 parts.0, replied_by m ps parts.1)

-- whether a build comes back, or is refused, as it is told
abbrev pub judges_as : Bool → Module → Assignment → Bool
judges_as true m b = same (m.reply b) b
judges_as false m b = inconsistent (m.reply b)

abbrev pub judges_so : Module → List ℕ → List ℕ → Bool
judges_so m allowed [] = true
judges_so m allowed (n ∷ ns) =
    total (build n) && (judges_as (is_in allowed n) m (build n) && judges_so m allowed ns)

judged : (v : Bool) (m : Module) → Sound m → (b : Assignment) → Total b → judges_as v m b ≡ true → Judged v m b
judged true m s b t e = let given_back = same_true (m.reply b) b e in (given_back, (s.builds b t).0 given_back)
judged false m s b t e =
    (e, λ x. both_ways (inconsistent b) (total_consistent b t) (sym (ap inconsistent ((s.builds b t).1 x)) ∙ e))

pub judged_by : (m : Module) → Sound m → (allowed ns : List ℕ) → judges_so m allowed ns ≡ true → AllByRecursion (λ n. Judged (is_in allowed n) m (build n)) ns
judged_by m s allowed [] e = tt
judged_by m s allowed (n ∷ ns) e =
    let parts = and_parts (total (build n)) (judges_as (is_in allowed n) m (build n) && judges_so m allowed ns) e in
    let rest = and_parts (judges_as (is_in allowed n) m (build n)) (judges_so m allowed ns) parts.1 in
    (judged (is_in allowed n) m s (build n) parts.0 rest.0, judged_by m s allowed ns rest.1)
