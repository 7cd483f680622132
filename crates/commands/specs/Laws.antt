-- The laws of command lines.
use Rattle.std.specs.Prelude.{◌≡◌, ◌↔◌, ℕ, ◌<◌, ◌≤◌, List, length, Ok, Err}
use Rattle.calls.specs.declared.call.Call.{Call}
use Rattle.calls.specs.declared.refusal.CallRefusal.TheVariants.{NoCommand}
use Rattle.commands.specs.Commands.{command_of, Of32Bits}
use Rattle.commands.specs.Parsing.{parsed}

-- calls that are printed alike are one
abbrev pub UniqueCommands : Type 0
UniqueCommands = (c d : Call) → Of32Bits c → Of32Bits d → command_of c ≡ command_of d → c ≡ d

abbrev pub ShortCommands : Type 0
ShortCommands = (c : Call) → Of32Bits c → length (command_of c) ≤ 21

-- a line is read as a call exactly if it is this call's printed form, and the call's numbers have 32 bits
abbrev pub ReadIfPrinted : Type 0
ReadIfPrinted = (line : List ℕ) (call : Call) → (parsed line ≡ Ok call) ↔ (Of32Bits call × (line ≡ command_of call))

-- a line that is the printed form of no such call is no command
abbrev pub OthersRefused : Type 0
OthersRefused = (line : List ℕ) → ((call : Call) → Of32Bits call → line ≡ command_of call → ⊥) → parsed line ≡ Err NoCommand

-- a longer line is no command
abbrev pub LongRefused : Type 0
LongRefused = (line : List ℕ) → 21 < length line → parsed line ≡ Err NoCommand
