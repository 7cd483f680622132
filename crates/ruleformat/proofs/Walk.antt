-- One step of the walk over a file: a record that passes its checks, and what is held after it.
use Rattle.std.proofs.Common.{◌≡◌, ℕ, ◌-◌, ◌<◌, false, List, ◌++◌, length, sym, ap, ◌∙◌, subst, ap₂, subst₂, arith}
use Rattle.std.proofs.lemmas.Bool.{le-ltb}
use Rattle.refusals.specs.Checks.{within}
use Rattle.refusals.specs.declared.fault.FileFault.TheVariants.{Record}
use Rattle.ruleformat.specs.Contents.{Contents, sheets}
use Rattle.ruleformat.specs.Encoding.{encode_record}
use Rattle.ruleformat.specs.Kinds.{out_of_turn, unknown}
use Rattle.ruleformat.specs.Reading.{body_checks, checks_from, held_from, record_checks, with_record}
use Rattle.ruleformat.specs.Records.{body, head_checks, kind, one_too_many, record_size, records}
use Rattle.refusals.proofs.Passing.{Passing, passing_append, passing_within}
use Rattle.ruleformat.proofs.Records.{body_of_record, body_size_of_record, kind_of_record, length_of_record, records_of_record}
use Rattle.ruleformat.proofs.Turns.{known_kind}

-- after a record of the kind before and records that hold c, these bytes pass all checks, and with them d is held
pub record Reads (total before : ℕ) (c : Contents) (bytes : List ℕ) (d : Contents) : Type 0 where
  pub passing : Passing (checks_from total before c (records bytes))
  pub held : held_from c (records bytes) ≡ d

-- what a record of kind k with the body b has to pass at any place
pub record Fits (before : ℕ) (c : Contents) (k : ℕ) (b : List ℕ) : Type 0 where
  pub short : length b < 65536
  pub known : unknown k ≡ false
  pub in_turn : out_of_turn before k ≡ false
  pub room : one_too_many (sheets c) (length c.folders) k ≡ false
  pub body_passes : (place : ℕ) → Passing (body_checks k place b c)

module _ (total before : ℕ) (c d : Contents) (k : ℕ) (b tail : List ℕ) (fits : Fits before c k b) where
  abbrev rest : List ℕ
  rest = encode_record k b ++ tail

  small : k < 65536
  small = omega (arith, (known_kind k fits.known).1)

  kind_is : k ≡ kind rest
  kind_is = sym (kind_of_record k b tail fits.short small)

  body_is : b ≡ body rest
  body_is = sym (body_of_record k b tail fits.short small)

  head_passes : (place : ℕ) → Passing (head_checks before (sheets c) (length c.folders) place rest)
  head_passes place =
      let long = length_of_record k b tail fits.short small in
      let size = body_size_of_record k b tail fits.short small in
      let headed = le-ltb (length rest) 4 (omega (arith, long)) in
      let known = subst (λ j. unknown j ≡ false) kind_is fits.known in
      let turn = subst (λ j. out_of_turn before j ≡ false) kind_is fits.in_turn in
      let room = subst (λ j. one_too_many (sheets c) (length c.folders) j ≡ false) kind_is fits.room in
      let uncut = le-ltb (length rest) (record_size rest) (omega (arith, long, size)) in
      (headed, (known, (turn, (room, (uncut, tt)))))

  record_passes : (place : ℕ) → Passing (record_checks before place rest c)
  record_passes place =
      passing_append (within Record (head_checks before (sheets c) (length c.folders) place rest))
      (body_checks (kind rest) place (body rest) c)
      (passing_within Record (head_checks before (sheets c) (length c.folders) place rest) (head_passes place))
      (subst₂ (λ j bs. Passing (body_checks j place bs c)) kind_is body_is (fits.body_passes place))

  pub reads_record : Reads total k (with_record k b c) tail d → Reads total before c (encode_record k b ++ tail) d
  reads_record next =
      let these = records_of_record k b tail fits.short small in
      record {
        passing =
            subst (λ rs. Passing (checks_from total before c rs)) (sym these)
            (passing_append (record_checks before (total - length rest) rest c)
            (checks_from total (kind rest) (with_record (kind rest) (body rest) c) (records tail)) (record_passes (total - length rest))
            (subst₂ (λ j bs. Passing (checks_from total j (with_record j bs c) (records tail))) kind_is body_is next.passing));
        held =
            ap (held_from c) these ∙ sym (ap₂ (λ j bs. held_from (with_record j bs c) (records tail)) kind_is body_is) ∙ next.held;
      }
