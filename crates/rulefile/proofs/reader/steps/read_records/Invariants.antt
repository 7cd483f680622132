-- What is left of the file decides as the whole does, and holds with what was kept all that it holds.
use Rattle.std.proofs.Common.{◌≡◌, ◌≤◌, length}
use Rattle.refusals.specs.Checks.{judged}
use Rattle.ruleformat.specs.Contents.{nothing}
use Rattle.ruleformat.specs.Reading.{checks_from, contents, held_from}
use Rattle.ruleformat.specs.Records.{records}
use Rattle.rulefile.specs.Codes.{last_code}
use Rattle.rulefile.specs.Held.{held}
use Rattle.rulefile.proofs.reader.steps.read_records.Given as goal

abbrev pub invariant-loop-rest : goal.invariant-loop-rest
invariant-loop-rest l =
    record {
      decides : judged (checks_from (length l.bytes) (last_code l.reader.last) (held l.reader) (records l.rest)) (held_from (held l.reader) (records l.rest))
          ≡ judged (checks_from (length l.bytes) 0 nothing (records l.bytes)) (contents l.bytes);
      within : length l.rest ≤ length l.bytes;
    }

abbrev pub decreases-loop-rest : goal.decreases-loop-rest
decreases-loop-rest l = length l.rest
