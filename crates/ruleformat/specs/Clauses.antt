-- A clause sheet's record: for each clause the number of its wanted values, then a byte for each.
use Rattle.std.specs.Prelude.{ℕ, ◌+◌, ◌/◌, ◌%◌, Bool, ◌||◌, List, [], ◌∷◌, ◌++◌, map, length, take, drop, ◌==◌, nat_le, nat_lt, slice_index}
use Rattle.std.specs.List.{list_any}
use Rattle.refusals.specs.Checks.{Check, when}
use Rattle.refusals.specs.declared.fault.SheetFault.{SheetFault}
use Rattle.refusals.specs.declared.fault.SheetFault.TheVariants.{Record, Item}
use Rattle.refusals.specs.declared.refusal.Refusal.TheVariants.{Unfit, BeyondOptions, Conflict, OutOfRange}
use Rattle.ruleformat.specs.Bytes.{pieces}
use Rattle.ruleformat.specs.Contents.{Contents, Wanted}
use Rattle.ruleformat.specs.Records.{at}

-- how many values a clause wants, and how many bytes it takes
abbrev pub wants : List ℕ → ℕ
wants rest = slice_index rest 0

abbrev pub clause_size : List ℕ → ℕ
clause_size rest = 1 + wants rest

abbrev pub clause_pieces : List ℕ → List (List ℕ)
clause_pieces body = pieces clause_size 0 body

abbrev pub wanted_bytes : List ℕ → List ℕ
wanted_bytes rest = take (wants rest) (drop 1 rest)

-- bits 0 to 5 are the option, bit 6 is not used, bit 7 is set where it is wanted no
abbrev pub option_of : ℕ → ℕ
option_of b = b % 64

abbrev pub bit_six : ℕ → Bool
bit_six b = (b / 64) % 2 == 1

abbrev pub wanted_of : ℕ → Wanted
wanted_of b = record { option = option_of b; negated = nat_le 128 b }

abbrev pub clause_of : List ℕ → List Wanted
clause_of rest = map wanted_of (wanted_bytes rest)

abbrev pub clauses_of : List ℕ → List (List Wanted)
clauses_of body = map clause_of (clause_pieces body)

-- the wanted values are not 1 to 16 or not all there
abbrev pub unfit_clause : List ℕ → Bool
unfit_clause rest = wants rest == 0 || (nat_lt 16 (wants rest) || nat_lt (length rest) (clause_size rest))

-- a clause is unfit, or there are more than 256
abbrev pub unfit_clauses : List ℕ → Bool
unfit_clauses body = list_any unfit_clause (clause_pieces body) || nat_lt 256 (length (clause_pieces body))

-- the wanted values of clause i; the least option that may come next is `low`
abbrev pub wanted_checks : (n place i low : ℕ) → List ℕ → List (Check SheetFault)
wanted_checks n place i low [] = []
wanted_checks n place i low (b ∷ bs) =
    when (bit_six b) (Item OutOfRange place i) ∷ when (nat_le n (option_of b)) (Item BeyondOptions place i)
    ∷ when (nat_lt (option_of b) low) (Item Conflict place i) ∷ wanted_checks n place i (option_of b + 1) bs

-- clauses from the one with number i on
abbrev pub clause_checks : (n place i : ℕ) → List (List ℕ) → List (Check SheetFault)
clause_checks n place i [] = []
clause_checks n place i (rest ∷ rests) = wanted_checks n place i 0 (wanted_bytes rest) ++ clause_checks n place (i + 1) rests

abbrev pub clauses_checks : (n place : ℕ) → List ℕ → List (Check SheetFault)
clauses_checks n place body =
    when (unfit_clauses body) (Record (at Unfit place)) ∷ clause_checks n place 0 (clause_pieces body)

abbrev pub with_clauses : List ℕ → Contents → Contents
with_clauses body c =
    record {
      options = c.options;
      start_yes = c.start_yes;
      start_no = c.start_no;
      tables = c.tables;
      clauses = c.clauses ++ clauses_of body ∷ [];
      folders = c.folders;
      asked = c.asked;
    }
