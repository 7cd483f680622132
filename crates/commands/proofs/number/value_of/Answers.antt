-- The value of at most ten digits fits.
use Rattle.std.proofs.Common.{drop, arith}
use Rattle.commands.proofs.Numbers.{value_small}
use Rattle.commands.proofs.number.value_of.Goals as goal

pub overflow_mul-value : goal.overflow_mul-value
overflow_mul-value c =
    omega (arith, value_small c.loop-digit.value (drop c.loop-digit.digit-index c.args.digits.now) c.args.digits.now c.loop-digit.invariant c.requires.digits c.requires.short)

pub overflow_add-value : goal.overflow_add-value
overflow_add-value c =
    omega (arith, c.from.type_inv, c.from.ensures, value_small c.loop-digit.value (drop c.loop-digit.digit-index c.args.digits.now) c.args.digits.now c.loop-digit.invariant c.requires.digits c.requires.short)
