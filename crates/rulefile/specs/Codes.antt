-- The numbers of the kinds.
use Rattle.std.specs.Prelude.{ℕ, Option, Some, None}
use Rattle.rulefile.specs.declared.kind.Kind.{Kind}
use Rattle.rulefile.specs.declared.kind.Kind.TheVariants as kind
use Rattle.rulefile.specs.declared.kind.UnknownKind.{UnknownKind}

abbrev pub code : Kind → ℕ
code kind.Start = 1
code kind.Table = 2
code kind.Clauses = 3
code kind.Folder = 4
code kind.Question = 5

-- the number of the last kind, 0 for none
abbrev pub last_code : Option Kind → ℕ
last_code None = 0
last_code (Some k) = code k

abbrev pub no_kind : UnknownKind
no_kind = record {}
