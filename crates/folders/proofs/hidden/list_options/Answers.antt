-- At the end all 64 options were looked at.
use Rattle.std.proofs.Common.{◌≡◌, ap, ◌∙◌, arith}
use Rattle.assignment.specs.Options.{options_below}
use Rattle.folders.proofs.hidden.list_options.Goals as goal

pub returns : goal.returns
returns c =
    let last : c.loop-option.option ≡ 64 = omega arith in
    c.loop-option.invariant.1 ∙ ap (λ n. options_below n c.args.mask) last
