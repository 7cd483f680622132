-- What is read is what the laws of reading say.
use Rattle.std.proofs.Common.{◌≡◌, ℕ, suc, List, [], ◌∷◌, get_or, Ok, Err, Result, sym, arith, w8, Fits, MatchResult}
use Rattle.refusals.specs.Checks.{First, seen}
use Rattle.refusals.specs.declared.fault.FileFault.{FileFault}
use Rattle.ruleformat.specs.Encoding.{encode}
use Rattle.ruleformat.specs.Laws.{Byte}
use Rattle.ruleformat.specs.Reading.{checks, reading}
use Rattle.ruleformat.specs.WellFormed.{Each, WellFormed}
use Rattle.ruleformat.proofs.Accepted.{accepted_is_encoded}
use Rattle.ruleformat.proofs.Refused.{refused_by_first}
use Rattle.rulefile.specs.Held.{contents_of}
use Rattle.rulefile.specs.declared.file.RuleFile.{RuleFile}
use Rattle.rulefile.proofs.reader.steps.read.Goals as goal

bytes_fit : (xs : List ℕ) → ((i : ℕ) → Fits w8 (get_or xs i 0)) → Each Byte xs
bytes_fit [] h = tt
bytes_fit (x ∷ xs) h = let f = h 0 in (omega arith, bytes_fit xs (λ i. h (suc i)))

exact : (bytes : List ℕ) → Each Byte bytes → (r : Result RuleFile FileFault) → seen contents_of r ≡ reading bytes → MatchResult r (λ f. WellFormed (contents_of f) × (encode (contents_of f) ≡ bytes)) (λ e. First (checks bytes) e)
exact bytes each (Ok f) h = accepted_is_encoded bytes (contents_of f) each (sym h)
exact bytes each (Err e) h = (refused_by_first bytes e).0 (sym h)

pub returns-clause-exact : goal.returns-clause-exact
returns-clause-exact c =
    let bytes = c.args.bytes.now in
    exact bytes (bytes_fit bytes c.type_inv.bytes) c.read_records.result c.read_records.ensures
