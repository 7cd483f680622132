-- What a file's fault tells the user: the refusal, the layer, the place and the item.
use Rattle.std.specs.Prelude.{ℕ, List, ◌++◌, codes, decimal}
use Rattle.refusals.specs.declared.refusal.Refusal.{Refusal}
use Rattle.refusals.specs.declared.layer.Layer.{Layer}
use Rattle.refusals.specs.declared.layer.Layer.TheVariants as layer
use Rattle.refusals.specs.Numbers.{number_of, name_of}
use Rattle.refusals.specs.declared.fault.SheetFault.TheVariants as sheet
use Rattle.refusals.specs.declared.fault.FolderFault.TheVariants as folder
use Rattle.refusals.specs.declared.fault.FileFault.{FileFault}
use Rattle.refusals.specs.declared.fault.FileFault.TheVariants as file

abbrev pub refusal_of : FileFault → Refusal
refusal_of (file.Record f) = f.refusal
refusal_of (file.Start r p) = r
refusal_of (file.Sheet (sheet.Record f)) = f.refusal
refusal_of (file.Sheet (sheet.Item r p i)) = r
refusal_of (file.Folder (folder.Record f)) = f.refusal
refusal_of (file.Folder (folder.Entry r p i)) = r
refusal_of (file.Question r p) = r

-- a sheet's or a folder's fault that is its record's is told in the layer of records
abbrev pub layer_of : FileFault → Layer
layer_of (file.Record f) = layer.Record
layer_of (file.Start r p) = layer.Start
layer_of (file.Sheet (sheet.Record f)) = layer.Record
layer_of (file.Sheet (sheet.Item r p i)) = layer.Sheet
layer_of (file.Folder (folder.Record f)) = layer.Record
layer_of (file.Folder (folder.Entry r p i)) = layer.Folder
layer_of (file.Question r p) = layer.Question

abbrev pub place_of : FileFault → ℕ
place_of (file.Record f) = f.place
place_of (file.Start r p) = p
place_of (file.Sheet (sheet.Record f)) = f.place
place_of (file.Sheet (sheet.Item r p i)) = p
place_of (file.Folder (folder.Record f)) = f.place
place_of (file.Folder (folder.Entry r p i)) = p
place_of (file.Question r p) = p

abbrev pub item_of : FileFault → ℕ
item_of (file.Record f) = 0
item_of (file.Start r p) = 0
item_of (file.Sheet (sheet.Record f)) = 0
item_of (file.Sheet (sheet.Item r p i)) = i
item_of (file.Folder (folder.Record f)) = 0
item_of (file.Folder (folder.Entry r p i)) = i
item_of (file.Question r p) = 0

-- the line in which a refusal is told, without the line's end
abbrev pub line_of : FileFault → List ℕ
line_of f =
    codes "refused "
    ++ decimal (number_of (refusal_of f))
    ++ codes " "
    ++ name_of (layer_of f)
    ++ codes " "
    ++ decimal (place_of f)
    ++ codes " "
    ++ decimal (item_of f)
