-- The printed forms of the calls.
use Rattle.std.specs.Prelude.{ℕ, ◌^◌, ◌<◌, Bool, true, false, List, ◌++◌, codes, decimal}
use Rattle.calls.specs.declared.call.Call.{Call}
use Rattle.calls.specs.declared.call.Call.TheVariants.{Settle, Back, Again, Look, Next}

abbrev pub value_word : Bool → List ℕ
value_word true = codes " yes"
value_word false = codes " no"

abbrev pub command_of : Call → List ℕ
command_of (Settle o v) = codes "settle " ++ (decimal o ++ value_word v)
command_of Back = codes "back"
command_of Again = codes "again"
command_of Look = codes "look"
command_of (Next n) = codes "next " ++ decimal n

-- the numbers of a call have 32 bits
abbrev pub Of32Bits : Call → Type 0
Of32Bits (Settle o v) = o < 2 ^ 32
Of32Bits Back = Unit {0}
Of32Bits Again = Unit {0}
Of32Bits Look = Unit {0}
Of32Bits (Next n) = n < 2 ^ 32
