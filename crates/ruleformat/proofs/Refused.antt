-- A file is refused with the fault of the first check that holds.
use Rattle.refusals.proofs.Judged.{first_judged, judged_first}
use Rattle.ruleformat.specs.Laws.{RefusedByFirst}
use Rattle.ruleformat.specs.Reading.{checks, contents}

pub refused_by_first : RefusedByFirst
refused_by_first bytes f = (judged_first (checks bytes) (contents bytes) f, first_judged (checks bytes) (contents bytes) f)
