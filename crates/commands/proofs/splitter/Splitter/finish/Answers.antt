-- Some bytes came.
use Rattle.std.proofs.Common.{◌≡◌, ℕ, ◌<◌, List, [], ◌∷◌, Some, length, arith, refl, ap, ◌∙◌}
use Rattle.commands.specs.Lines.{last_verdict}
use Rattle.commands.specs.Parsing.{parsed}
use Rattle.commands.proofs.splitter.Splitter.finish.Goals as goal

last_some : (bytes : List ℕ) → 0 < length bytes → Some (parsed bytes) ≡ last_verdict bytes
last_some [] h = absurd (omega arith)
last_some (b ∷ bs) h = refl

pub returns : goal.returns
returns c bytes p =
    let came : 0 < length bytes = omega (arith, p.count) in
    (ap Some (c.end_line.ensures.verdict bytes p) ∙ last_some bytes came, c.end_line.ensures.pending)
