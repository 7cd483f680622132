-- The number of each refusal.
use Rattle.std.specs.Prelude.{ℕ}
use Rattle.calls.specs.declared.refusal.CallRefusal.{CallRefusal}
use Rattle.calls.specs.declared.refusal.CallRefusal.TheVariants.{NoOption, Fixed, NothingSettled, NoCommand}

abbrev pub number_of : CallRefusal → ℕ
number_of NoOption = 21
number_of Fixed = 22
number_of NothingSettled = 23
number_of NoCommand = 24
