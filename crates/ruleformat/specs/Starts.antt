-- The start record: the number of options, then the masks of the options known yes and known no.
use Rattle.std.specs.Prelude.{ℕ, ◌^◌, not, List, [], ◌∷◌, length, take, drop, ◌==◌, bit_and, nat_le, nat_lt, slice_index}
use Rattle.refusals.specs.Checks.{Check, when}
use Rattle.refusals.specs.declared.fault.FileFault.{FileFault}
use Rattle.refusals.specs.declared.fault.FileFault.TheVariants.{Record, Start}
use Rattle.refusals.specs.declared.refusal.Refusal.TheVariants.{Unfit, BeyondOptions, Conflict, OutOfRange}
use Rattle.ruleformat.specs.Bytes.{number}
use Rattle.ruleformat.specs.Contents.{Contents}
use Rattle.ruleformat.specs.Records.{at}

abbrev pub start_options : List ℕ → ℕ
start_options body = slice_index body 0

abbrev pub yes_mask : List ℕ → ℕ
yes_mask body = number (take 8 (drop 1 body))

abbrev pub no_mask : List ℕ → ℕ
no_mask body = number (take 8 (drop 9 body))

abbrev pub start_checks : ℕ → List ℕ → List (Check FileFault)
start_checks place body =
    when (not (length body == 17)) (Record (at Unfit place)) ∷ when (start_options body == 0) (Start OutOfRange place)
    ∷ when (nat_lt 64 (start_options body)) (Start OutOfRange place)
    ∷ when (nat_le (2 ^ start_options body) (yes_mask body)) (Start BeyondOptions place)
    ∷ when (nat_le (2 ^ start_options body) (no_mask body)) (Start BeyondOptions place)
    ∷ when (not (bit_and (yes_mask body) (no_mask body) == 0)) (Start Conflict place) ∷ []

abbrev pub with_start : List ℕ → Contents → Contents
with_start body c =
    record {
      options = start_options body;
      start_yes = yes_mask body;
      start_no = no_mask body;
      tables = c.tables;
      clauses = c.clauses;
      folders = c.folders;
      asked = c.asked;
    }
