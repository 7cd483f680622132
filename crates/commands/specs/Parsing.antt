-- Reading a command line.
use Rattle.std.specs.Prelude.{ℕ, ◌-◌, Bool, true, false, cond, List, length, take, drop, codes, Option, None, Some, Result}
use Rattle.std.specs.Option.{ok_or, option_map, option_or}
use Rattle.std.specs.Str.{bytes_eq}
use Rattle.calls.specs.declared.call.Call.{Call}
use Rattle.calls.specs.declared.call.Call.TheVariants.{Settle, Back, Again, Look, Next}
use Rattle.calls.specs.declared.refusal.CallRefusal.{CallRefusal}
use Rattle.calls.specs.declared.refusal.CallRefusal.TheVariants.{NoCommand}
use Rattle.commands.specs.Numerals.{number_in}

abbrev pub begins_with : List ℕ → List ℕ → Bool
begins_with word line = bytes_eq (take (length word) line) word

abbrev pub ends_with : List ℕ → List ℕ → Bool
ends_with word line = bytes_eq (drop (length line - length word) line) word

abbrev pub word_in : List ℕ → Option Call
word_in line =
    cond (bytes_eq line (codes "back")) (Some Back)
    (cond (bytes_eq line (codes "again")) (Some Again) (cond (bytes_eq line (codes "look")) (Some Look) None))

abbrev pub next_in : List ℕ → Option Call
next_in line = cond (begins_with (codes "next ") line) (option_map Next (number_in (drop 5 line))) None

abbrev pub settlement : Bool → ℕ → Call
settlement v o = Settle o v

abbrev pub valued : List ℕ → List ℕ → Bool → Option Call
valued settled word v =
    cond (ends_with word settled) (option_map (settlement v) (number_in (take (length settled - length word) settled))) None

abbrev pub settle_in : List ℕ → Option Call
settle_in line =
    cond (begins_with (codes "settle ") line)
    (option_or (valued (drop 7 line) (codes " yes") true) (valued (drop 7 line) (codes " no") false)) None

abbrev pub parsed : List ℕ → Result Call CallRefusal
parsed line = ok_or (option_or (option_or (word_in line) (next_in line)) (settle_in line)) NoCommand
