-- The rules of a list of sheets, by number.
use Rattle.std.proofs.Common.{◌≡◌, ℕ, ◌<◌, ◌≤◌, cond, List, map, length, get_or, sym, ap, ◌∙◌, subst}
use Rattle.std.proofs.lemmas.List.{get_or-map, get_or_past, length-map}
use Rattle.std.proofs.lemmas.Bool.{lt-ltb}
use Rattle.assignment.specs.Lattice.{contradiction}
use Rattle.assignment.specs.declared.assignment.Assignment.{Assignment}
use Rattle.ruleset.specs.Listed.{listed, nothing, Rule}

pub counted : {X Y : Type 0} (reply : Y → Rule) (view : X → Y) (xs : List X) → length (map reply (map view xs)) ≡ length xs
counted reply view xs = length-map (map view xs) reply ∙ length-map xs view

module _ {X Y : Type 0} (reply : Y → Rule) (view : X → Y) (xs : List X) (k : ℕ) (few : k < 64) (a : Assignment) where
  numbered : (listed (map reply (map view xs))).reply k a ≡ get_or (map reply (map view xs)) k nothing a
  numbered = ap (λ b. cond b (get_or (map reply (map view xs)) k nothing) nothing a) (lt-ltb k 64 few)

  pub sheet_replies : (x : X) → k < length xs → x ≡ get_or xs k x → reply (view x) a ≡ (listed (map reply (map view xs))).reply k a
  sheet_replies x there e =
      let seen : k < length (map view xs) = subst (λ n. k < n) (sym (length-map xs view)) there in
      ap (λ y. reply y a) (ap view e ∙ sym (get_or-map view xs k x (view x) there))
      ∙ sym (ap (λ f. f a) (get_or-map reply (map view xs) k (view x) nothing seen)) ∙ sym numbered

  pub no_sheet_replies : length xs ≤ k → contradiction ≡ (listed (map reply (map view xs))).reply k a
  no_sheet_replies past =
      sym (ap (λ f. f a) (get_or_past (map reply (map view xs)) k nothing (subst (λ n. n ≤ k) (sym (counted reply view xs)) past)))
      ∙ sym numbered
