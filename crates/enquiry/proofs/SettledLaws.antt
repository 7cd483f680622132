-- Settlements that were each of an option of which nothing was known.
use Rattle.std.proofs.Common.{◌≡◌, ℕ, zero, suc, ◌+◌, ◌<◌, ◌≤◌, true, false, not, ◌&&◌, nat_lt, List, [], ◌∷◌, ◌++◌, length, take, refl, arith}
use Rattle.std.proofs.lemmas.Bool.{and_from, and_parts, lt-ltb, ltb-true, not-true, not_from_false}
use Rattle.assignment.specs.Knows.{known}
use Rattle.assignment.specs.Lattice.{inconsistent, put}
use Rattle.assignment.specs.Size.{size, size_few}
use Rattle.assignment.specs.declared.assignment.Assignment.{Assignment}
use Rattle.enquiry.specs.Fitting.{settled}
use Rattle.enquiry.specs.Settled.{well_settled}
use Rattle.enquiry.specs.declared.settlement.Settlement.{Settlement}
use Rattle.enquiry.proofs.RoomLaws.{put_consistent, put_more}

-- a first part of them
pub well_first : (a : Assignment) (n : ℕ) (ss : List Settlement) → well_settled a ss ≡ true → well_settled a (take n ss) ≡ true
well_first a zero ss e = refl
well_first a (suc n) [] e = refl
well_first a (suc n) (s ∷ ss) e =
    let parts = and_parts (nat_lt s.option 64 && not (known a s.option)) (well_settled (put s.option s.value a) ss) e in
    and_from (nat_lt s.option 64 && not (known a s.option)) (well_settled (put s.option s.value a) (take n ss)) parts.0 (well_first (put s.option s.value a) n ss parts.1)

-- what each of them says
record Fresh (a : Assignment) (s : Settlement) (ss : List Settlement) : Type 0 where
  below : s.option < 64
  new : known a s.option ≡ false
  rest : well_settled (put s.option s.value a) ss ≡ true

fresh : (a : Assignment) (s : Settlement) (ss : List Settlement) → well_settled a (s ∷ ss) ≡ true → Fresh a s ss
fresh a s ss e =
    let parts = and_parts (nat_lt s.option 64 && not (known a s.option)) (well_settled (put s.option s.value a) ss) e in
    let here = and_parts (nat_lt s.option 64) (not (known a s.option)) parts.0 in
    record { below = ltb-true s.option 64 here.0; new = not-true (known a s.option) here.1; rest = parts.1 }

-- so they contradict neither what was known nor each other
pub settled_consistent : (a : Assignment) (ss : List Settlement) → inconsistent a ≡ false → well_settled a ss ≡ true → inconsistent (settled a ss) ≡ false
settled_consistent a [] i e = i
settled_consistent a (s ∷ ss) i e =
    let f = fresh a s ss e in
    settled_consistent (put s.option s.value a) ss (put_consistent a s.option s.value f.below i f.new) f.rest

-- and there are at most as many as options
few_settled : (a : Assignment) (ss : List Settlement) → inconsistent a ≡ false → well_settled a ss ≡ true → length ss + size 64 a ≤ size 64 (settled a ss)
few_settled a [] i e = omega arith
few_settled a (s ∷ ss) i e =
    let f = fresh a s ss e in
    let rest = few_settled (put s.option s.value a) ss (put_consistent a s.option s.value f.below i f.new) f.rest in
    let more = put_more a s.option s.value f.below f.new in
    omega (arith, rest, more)

-- one more
pub well_more : (a : Assignment) (ss : List Settlement) (s : Settlement) → well_settled a ss ≡ true → s.option < 64 → known (settled a ss) s.option ≡ false → well_settled a (ss ++ (s ∷ [])) ≡ true
well_more a [] s e h u =
    and_from (nat_lt s.option 64 && not (known a s.option)) true (and_from (nat_lt s.option 64) (not (known a s.option)) (lt-ltb s.option 64 h) (not_from_false (known a s.option) u)) refl
well_more a (t ∷ ss) s e h u =
    let parts = and_parts (nat_lt t.option 64 && not (known a t.option)) (well_settled (put t.option t.value a) ss) e in
    and_from (nat_lt t.option 64 && not (known a t.option)) (well_settled (put t.option t.value a) (ss ++ (s ∷ []))) parts.0 (well_more (put t.option t.value a) ss s parts.1 h u)

pub room_to_settle : (a : Assignment) (ss : List Settlement) (o : ℕ) → inconsistent a ≡ false → well_settled a ss ≡ true → o < 64 → known (settled a ss) o ≡ false → length ss < 64
room_to_settle a ss o i e h u =
    let c = settled_consistent a ss i e in
    let few = few_settled a ss i e in
    let more = put_more (settled a ss) o true h u in
    let most = size_few 64 (put o true (settled a ss)) (put_consistent (settled a ss) o true h c u) in
    omega (arith, few, more, most)
