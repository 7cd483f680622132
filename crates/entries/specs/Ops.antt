-- The ops by their codes.
use Rattle.std.specs.Prelude.{◌≡◌, ℕ, ◌<◌, Result, MatchResult}
use Rattle.entries.specs.declared.op.Op.{Op}
use Rattle.entries.specs.declared.op.Op.TheVariants as op
use Rattle.entries.specs.declared.op.UnknownOp.{UnknownOp}
use Rattle.entries.specs.Fields.{carry_op, product_op, either_op, selection_op, projection_op, complement_op, none_op}

abbrev pub code_of : Op → ℕ
code_of op.Carry = carry_op
code_of op.Product = product_op
code_of op.Either = either_op
code_of op.Selection = selection_op
code_of op.Projection = projection_op
code_of op.Complement = complement_op
code_of op.None = none_op

-- the result is the op with this code, or says that the code is above all of theirs
abbrev pub Decodes : ℕ → Result Op UnknownOp → Type 0
Decodes code r = MatchResult r (λ o. code_of o ≡ code) (λ e. (e.0 ≡ code) × (none_op < code))
