-- The test is the one that decides; from 64 on there is no bit.
use Rattle.std.proofs.Common.{◌≡◌, ℕ, ◌*◌, ◌%◌, ◌^◌, ◌<◌, nat_le, sym, ap, ◌∙◌, arith}
use Rattle.std.proofs.Math.Nat.{mod-eq_of_lt}
use Rattle.std.proofs.Math.Pow.{pow-lt}
use Rattle.std.proofs.lemmas.Bool.{le-ltb}
use Rattle.assignment.proofs.FirstBits.{from_answer}
use Rattle.assignment.proofs.Shifts.{bound_past}
use Rattle.assignment.proofs.mask.has_bit_from.Goals as goal

shifted : (first : ℕ) → first < 64 → 1 * 2 ^ first % 2 ^ 64 ≡ 2 ^ first
shifted first h =
    let alone : 1 * 2 ^ first ≡ 2 ^ first = omega arith in
    ap (λ n. n % 2 ^ 64) alone ∙ mod-eq_of_lt (pow-lt h)

pub returns-then-first-lt64-clause-bits : goal.returns-then-first-lt64-clause-bits
returns-then-first-lt64-clause-bits c =
    from_answer _ c.args.first c.args.mask c.ranges.mask.fits
    (ap (λ n. nat_le n c.args.mask) (shifted c.args.first c.if-first-lt64.true))

pub returns-else-first-lt64-clause-bits : goal.returns-else-first-lt64-clause-bits
returns-else-first-lt64-clause-bits c =
    from_answer _ c.args.first c.args.mask c.ranges.mask.fits
    (le-ltb c.args.first 64 c.if-first-lt64.false
    ∙ sym (bound_past c.args.mask c.args.first c.ranges.mask.fits c.if-first-lt64.false))
