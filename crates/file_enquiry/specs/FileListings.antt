-- What a listing of a file's rules gives, with no word of replies.
use Rattle.std.specs.Prelude.{◌≡◌, ℕ, List, Ok}
use mathlib.Core.List.{Memᴰ}
use Rattle.assignment.specs.Lattice.{Refines, Total}
use Rattle.assignment.specs.declared.assignment.Assignment.{Assignment}
use Rattle.enquiry.specs.FewerCounted.{RunToEnd}
use Rattle.enquiry.specs.Fitting.{InOrder, Kept, known_with, Opening}
use Rattle.enquiry.specs.Histories.{given, History, standing}
use Rattle.file_enquiry.specs.FileOpenings.{OpenedOn}
use Rattle.listing.specs.Moves.{build_of}
use Rattle.listing.specs.SellingOrder.{selling_order}
use Rattle.listing.specs.declared.build.Build.{Build}
use Rattle.ruleformat.specs.Contents.{Contents}
use Rattle.ruleformat.specs.Laws.{Byte}
use Rattle.ruleformat.specs.Reading.{reading}
use Rattle.ruleformat.specs.WellFormed.{Each}
use Rattle.rulestack.specs.FileRules.{file_allows}

-- a build that the sheets and the table of entries allow, and that keeps what is known
abbrev pub FileBuild : Contents → Assignment → Build → Type 0
FileBuild c known b = (a : Assignment) × (build_of a ≡ b) × Total a × Refines a known × file_allows c c.asked a

-- these are all of them, each once, in selling order
pub record ListsAll (P : Build → Type 0) (bs : List Build) : Type 0 where
  pub sound : (b : Build) → Memᴰ b bs → P b
  pub complete : (b : Build) → P b → Memᴰ b bs
  pub in_order : InOrder selling_order bs

-- every listing that was run to its end gave just the builds that the contents allow, whatever was called before and in
-- whatever portions
abbrev pub Listings : Contents → Opening → Type 0
Listings c o = (h : History) → Kept o h → RunToEnd h → ListsAll (FileBuild c (known_with o (standing h))) (given h)

-- from the bytes of a file to the lists of its builds
abbrev pub FileListed : Type 0
FileListed = (bytes : List ℕ) (c : Contents) → Each Byte bytes → reading bytes ≡ Ok c → (o : Opening) → OpenedOn c o → Listings c o
