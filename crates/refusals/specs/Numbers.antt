-- The numbers of the refusals and the names of the layers, as the user sees them.
use Rattle.std.specs.Prelude.{ℕ, List, codes}
use Rattle.refusals.specs.declared.refusal.Refusal.{Refusal}
use Rattle.refusals.specs.declared.refusal.Refusal.TheVariants as refusal
use Rattle.refusals.specs.declared.layer.Layer.{Layer}
use Rattle.refusals.specs.declared.layer.Layer.TheVariants as layer

abbrev pub number_of : Refusal → ℕ
number_of refusal.TooLong = 1
number_of refusal.Cut = 2
number_of refusal.UnknownKind = 3
number_of refusal.OutOfTurn = 4
number_of refusal.TooMany = 5
number_of refusal.Unfit = 6
number_of refusal.BeyondOptions = 7
number_of refusal.Conflict = 8
number_of refusal.OutOfRange = 9
number_of refusal.NoSuchRule = 10
number_of refusal.Unfinished = 11
number_of refusal.TooManyHidden = 12

abbrev pub name_of : Layer → List ℕ
name_of layer.Record = codes "record"
name_of layer.Start = codes "start"
name_of layer.Sheet = codes "sheet"
name_of layer.Folder = codes "folder"
name_of layer.Question = codes "question"
