-- At a line's end, what came so far is the line.
use Rattle.std.proofs.Common.{◌≡◌, [], ◌∷◌, Some, sym, ap, subst, ◌∙◌, rules}
use Rattle.commands.specs.Lines.{feed}
use Rattle.commands.specs.Parsing.{parsed}
use Rattle.commands.specs.Splitting.{Pending}
use Rattle.commands.proofs.splitter.Splitter.next_line.Goals as goal

pub returns-then-byte-eq10-clause-fed : goal.returns-then-byte-eq10-clause-fed
returns-then-byte-eq10-clause-fed c bytes p =
    let so_far = c.loop-byte.invariant.fed bytes p in
    let first : c.loop-byte.piece.now ≡ 10 ∷ c.in-Some.rest.now = search rules in
    let fed : feed bytes c.args.piece.now.now ≡ record { verdict = Some (parsed so_far.0); left = c.in-Some.rest.now; pending = [] } =
    so_far.2 ∙ ap (feed so_far.0) first in
    record {
      verdict_is = ap Some (c.end_line.ensures.verdict so_far.0 so_far.1) ∙ ap (λ f. f.verdict) (sym fed);
      left_is = ap (λ f. f.left) (sym fed);
      pending = subst (Pending c.end_line.new.self) (ap (λ f. f.pending) (sym fed)) c.end_line.ensures.pending;
    }
