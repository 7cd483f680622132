-- The three laws of reading: what is accepted is encoded, what is encoded is accepted, and what refuses a file.
use Rattle.std.specs.Prelude.{◌≡◌, ℕ, ◌<◌, List, Ok, Err}
use Rattle.refusals.specs.Checks.{First}
use Rattle.refusals.specs.declared.fault.FileFault.{FileFault}
use Rattle.ruleformat.specs.Contents.{Contents}
use Rattle.ruleformat.specs.Encoding.{encode}
use Rattle.ruleformat.specs.Reading.{checks, reading}
use Rattle.ruleformat.specs.WellFormed.{Each, WellFormed}

abbrev pub Byte : ℕ → Type 0
Byte b = b < 256

-- what is read is well-formed, and its encoding is the file
abbrev pub AcceptedIsEncoded : Type 0
AcceptedIsEncoded =
    (bytes : List ℕ) (c : Contents) → Each Byte bytes → reading bytes ≡ Ok c → WellFormed c × (encode c ≡ bytes)

-- the encoding of well-formed contents is a list of bytes that reads back as those contents
abbrev pub EncodedIsAccepted : Type 0
EncodedIsAccepted = (c : Contents) → WellFormed c → Each Byte (encode c) × (reading (encode c) ≡ Ok c)

-- a file is refused with a fault exactly if that is the fault of the first check that holds
abbrev pub RefusedByFirst : Type 0
RefusedByFirst =
    (bytes : List ℕ) (f : FileFault) → (reading bytes ≡ Err f → First (checks bytes) f) × (First (checks bytes) f → reading bytes ≡ Err f)
