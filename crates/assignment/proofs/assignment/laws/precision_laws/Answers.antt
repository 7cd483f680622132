-- The theorems stand in specs/Laws.
use Rattle.std.proofs.Common.{◌≡◌, Bool, true, false, ◌⊎◌, inl, inr, refl}
use Rattle.assignment.specs.Lattice.{inconsistent}
use Rattle.assignment.specs.Laws.{contradiction_top, join_least, join_left, join_right, knows_up, meet_greatest, meet_left, meet_right, refines_antisym, refines_by, refines_refl, refines_trans, total_above, unknown_bottom}
use Rattle.assignment.specs.Precision.{AboveBuild, BetweenEnds, JoinLeast, MeetGreatest, PrecisionOrder, RefinesKnown}
use Rattle.assignment.proofs.assignment.laws.precision_laws.Goals as goal

refines_known : RefinesKnown
refines_known b a = (λ r o v h k. knows_up r o v k, λ up. refines_by b a (λ o h v k. up o v h k))

precision_order : PrecisionOrder
precision_order =
    record {
      itself = refines_refl;
      chained = λ c b a r s. refines_trans r s;
      antisymmetric = λ b a r s. refines_antisym r s;
    }

join_is_least : JoinLeast
join_is_least = record { left = join_left; right = join_right; least = λ a b c r s. join_least r s }

meet_is_greatest : MeetGreatest
meet_is_greatest = record { left = meet_left; right = meet_right; greatest = λ a b c r s. meet_greatest r s }

between_ends : BetweenEnds
between_ends a = (unknown_bottom a, contradiction_top a)

above_build : AboveBuild
above_build b a t r = go (inconsistent b) refl
  where
    go : (i : Bool) → inconsistent b ≡ i → (b ≡ a) ⊎ (inconsistent b ≡ true)
    go true e = inr e
    go false e = inl (total_above t r e)

pub returns : goal.returns
returns c =
    record {
      refines = refines_known;
      order = precision_order;
      join = join_is_least;
      meet = meet_is_greatest;
      ends = between_ends;
      builds = above_build;
    }
