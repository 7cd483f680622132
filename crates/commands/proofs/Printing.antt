-- A line is accepted exactly if it is the printed form of a call.
use Rattle.std.proofs.Common.{◌≡◌, ℕ, ◌-◌, ◌^◌, ◌<◌, ◌≤◌, Bool, true, false, cond, ◌⊎◌, inl, inr, List, ◌++◌, length, take, drop, reverse, get_or, Option, None, Some, Ok, Err, codes, arith, refl, sym, ap, subst, ◌∙◌}
use Rattle.std.specs.Fmt.{decimal}
use Rattle.std.specs.Option.{ok_or, option_map, option_or}
use Rattle.std.specs.Str.{bytes_eq}
use Rattle.std.proofs.lemmas.Fmt.{length-decimal-le}
use Rattle.std.proofs.lemmas.List.{drop_at, length-append, reverse-append, take-append-drop, take_at}
use Rattle.std.proofs.lemmas.Slice.Eq.{bytes_eq-Decides}
use Rattle.calls.specs.declared.call.Call.{Call}
use Rattle.calls.specs.declared.call.Call.TheVariants.{Settle, Back, Again, Look, Next}
use Rattle.calls.specs.declared.refusal.CallRefusal.TheVariants.{NoCommand}
use Rattle.commands.specs.Commands.{command_of, Of32Bits, value_word}
use Rattle.commands.specs.Laws.{LongRefused, OthersRefused, ReadIfPrinted, ShortCommands, UniqueCommands}
use Rattle.commands.specs.Numerals.{number_in}
use Rattle.commands.specs.Parsing.{begins_with, ends_with, next_in, parsed, settle_in, settlement, valued, word_in}
use Rattle.commands.proofs.Numbers.{number_printed, numeral_printed}

-- parts of a line

begins_true : (word line : List ℕ) → begins_with word line ≡ true → line ≡ word ++ drop (length word) line
begins_true word line h =
    sym (take-append-drop (length word) line)
    ∙ ap (λ xs. xs ++ drop (length word) line) ((bytes_eq-Decides (take (length word) line) word).0 h)

ends_true : (word line : List ℕ) → ends_with word line ≡ true → line ≡ take (length line - length word) line ++ word
ends_true word line h =
    sym (take-append-drop (length line - length word) line)
    ∙ ap (λ xs. take (length line - length word) line ++ xs) ((bytes_eq-Decides (drop (length line - length word) line) word).0 h)

front_length : (ds word : List ℕ) → length ds ≡ length (ds ++ word) - length word
front_length ds word = omega (arith, length-append ds word)

ends_here : (ds word : List ℕ) → ends_with word (ds ++ word) ≡ true
ends_here ds word =
    ap (λ xs. bytes_eq xs word) (drop_at ds word (length (ds ++ word) - length word) (front_length ds word))
    ∙ (bytes_eq-Decides word word).1 refl

no_yes : (ds : List ℕ) → ends_with (codes " yes") (ds ++ codes " no") ≡ false
no_yes ds = go (ends_with (codes " yes") line) refl
  where
    line : List ℕ
    line = ds ++ codes " no"

    front : List ℕ
    front = take (length line - 4) line

    last_of : ends_with (codes " yes") line ≡ true → ⊥
    last_of h =
        let e = ap reverse (ends_true (codes " yes") line h) in
        let turned = sym (reverse-append ds (codes " no")) ∙ e ∙ reverse-append front (codes " yes") in
        let same : ◌≡◌ {A = ℕ} 111 115 = ap (λ xs. get_or xs 0 0) turned in
        omega arith

    go : (b : Bool) → ends_with (codes " yes") line ≡ b → b ≡ false
    go true h = absurd (last_of h)
    go false h = refl

-- what is accepted is the printed form

module _ (line : List ℕ) (call : Call) where
  abbrev Printed : Type 0
  Printed = Of32Bits call × (line ≡ command_of call)

  cond_some : (b : Bool) (o : Option Call) → cond b o None ≡ Some call → (b ≡ true) × (o ≡ Some call)
  cond_some true o h = (refl, h)
  cond_some false o h = cc

  word_sound : word_in line ≡ Some call → Printed
  word_sound h = back (bytes_eq line (codes "back")) refl h
    where
      look : (b : Bool) → bytes_eq line (codes "look") ≡ b → cond b (Some Look) None ≡ Some call → Printed
      look true e h = let at : Look ≡ call = cc in subst (λ d. Of32Bits d × (line ≡ command_of d)) at (tt, (bytes_eq-Decides line (codes "look")).0 e)
      look false e h = cc

      again : (b : Bool) → bytes_eq line (codes "again") ≡ b → cond b (Some Again) (cond (bytes_eq line (codes "look")) (Some Look) None) ≡ Some call → Printed
      again true e h = let at : Again ≡ call = cc in subst (λ d. Of32Bits d × (line ≡ command_of d)) at (tt, (bytes_eq-Decides line (codes "again")).0 e)
      again false e h = look (bytes_eq line (codes "look")) refl h

      back : (b : Bool) → bytes_eq line (codes "back") ≡ b → cond b (Some Back) (cond (bytes_eq line (codes "again")) (Some Again) (cond (bytes_eq line (codes "look")) (Some Look) None)) ≡ Some call → Printed
      back true e h = let at : Back ≡ call = cc in subst (λ d. Of32Bits d × (line ≡ command_of d)) at (tt, (bytes_eq-Decides line (codes "back")).0 e)
      back false e h = again (bytes_eq line (codes "again")) refl h

  next_sound : next_in line ≡ Some call → Printed
  next_sound h =
      let begun = cond_some (begins_with (codes "next ") line) _ h in
      go (number_in (drop 5 line)) refl begun.1 (begins_true (codes "next ") line begun.0)
    where
      go : (o : Option ℕ) → number_in (drop 5 line) ≡ o → option_map Next o ≡ Some call → line ≡ codes "next " ++ drop 5 line → Printed
      go None e h at = cc
      go (Some n) e h at =
          let printed = numeral_printed (drop 5 line) n e in
          let is : Next n ≡ call = cc in
          subst (λ d. Of32Bits d × (line ≡ command_of d)) is (printed.0, at ∙ ap (λ xs. codes "next " ++ xs) printed.1)

  valued_sound : (settled : List ℕ) (v : Bool) → line ≡ codes "settle " ++ settled → valued settled (value_word v) v ≡ Some call → Printed
  valued_sound settled v at h =
      let ended = cond_some (ends_with (value_word v) settled) _ h in
      go (number_in digits) refl ended.1 (ends_true (value_word v) settled ended.0)
    where
      digits : List ℕ
      digits = take (length settled - length (value_word v)) settled

      go : (o : Option ℕ) → number_in digits ≡ o → option_map (settlement v) o ≡ Some call → settled ≡ digits ++ value_word v → Printed
      go None e h parts = cc
      go (Some n) e h parts =
          let printed = numeral_printed digits n e in
          let is : Settle n v ≡ call = cc in
          subst (λ d. Of32Bits d × (line ≡ command_of d)) is
          (printed.0, at ∙ ap (λ xs. codes "settle " ++ xs) (parts ∙ ap (λ xs. xs ++ value_word v) printed.1))

  or_some : (o p : Option Call) → option_or o p ≡ Some call → (o ≡ Some call) ⊎ (p ≡ Some call)
  or_some None p h = inr h
  or_some (Some c) p h = inl h

  settle_sound : settle_in line ≡ Some call → Printed
  settle_sound h =
      let begun = cond_some (begins_with (codes "settle ") line) _ h in
      go (begins_true (codes "settle ") line begun.0) (or_some (valued (drop 7 line) (codes " yes") true) (valued (drop 7 line) (codes " no") false) begun.1)
    where
      go : line ≡ codes "settle " ++ drop 7 line → (valued (drop 7 line) (codes " yes") true ≡ Some call) ⊎ (valued (drop 7 line) (codes " no") false ≡ Some call) → Printed
      go at (inl e) = valued_sound (drop 7 line) true at e
      go at (inr e) = valued_sound (drop 7 line) false at e

  pub accepted_printed : parsed line ≡ Ok call → Printed
  accepted_printed h = any (option_or (option_or (word_in line) (next_in line)) (settle_in line)) refl h
    where
      first : (word_in line ≡ Some call) ⊎ (next_in line ≡ Some call) → Printed
      first (inl e) = word_sound e
      first (inr e) = next_sound e

      either : (option_or (word_in line) (next_in line) ≡ Some call) ⊎ (settle_in line ≡ Some call) → Printed
      either (inl e) = first (or_some (word_in line) (next_in line) e)
      either (inr e) = settle_sound e

      any : (o : Option Call) → option_or (option_or (word_in line) (next_in line)) (settle_in line) ≡ o → ok_or o NoCommand ≡ Ok call → Printed
      any None e h = cc
      any (Some c) e h =
          let is : Some c ≡ Some call = cc in
          either (or_some (option_or (word_in line) (next_in line)) (settle_in line) (e ∙ is))

-- the printed form is accepted

valued_here : (ds word : List ℕ) (v : Bool) (n : ℕ) → number_in ds ≡ Some n → valued (ds ++ word) word v ≡ Some (Settle n v)
valued_here ds word v n h =
    ap (λ b. cond b (option_map (settlement v) (number_in (take (length (ds ++ word) - length word) (ds ++ word)))) None) (ends_here ds word)
    ∙ ap (λ xs. option_map (settlement v) (number_in xs)) (take_at ds word (length (ds ++ word) - length word) (front_length ds word))
    ∙ ap (λ o. option_map (settlement v) o) h

settle_printed : (n : ℕ) (v : Bool) → n < 2 ^ 32 → option_or (valued (decimal n ++ value_word v) (codes " yes") true) (valued (decimal n ++ value_word v) (codes " no") false) ≡ Some (Settle n v)
settle_printed n true h =
    ap (λ o. option_or o (valued (decimal n ++ codes " yes") (codes " no") false)) (valued_here (decimal n) (codes " yes") true n (number_printed n h))
settle_printed n false h =
    let line = decimal n ++ codes " no" in
    ap (λ b. option_or (cond b (option_map (settlement true) (number_in (take (length line - 4) line))) None) (valued line (codes " no") false)) (no_yes (decimal n))
    ∙ valued_here (decimal n) (codes " no") false n (number_printed n h)

pub printed_accepted : (call : Call) → Of32Bits call → parsed (command_of call) ≡ Ok call
printed_accepted (Settle n v) h = ap (λ o. ok_or o NoCommand) (settle_printed n v h)
printed_accepted Back h = refl
printed_accepted Again h = refl
printed_accepted Look h = refl
printed_accepted (Next n) h =
    ap (λ o. ok_or (option_or (option_map Next o) (settle_in (codes "next " ++ decimal n))) NoCommand) (number_printed n h)

-- the laws

pub unique_commands : UniqueCommands
unique_commands c d fits_c fits_d e =
    let one = printed_accepted c fits_c in
    let other = printed_accepted d fits_d in
    let same = sym one ∙ ap parsed e ∙ other in
    cc same

pub short_commands : ShortCommands
short_commands (Settle n v) h = settle v
  where
    settle : (v : Bool) → length (command_of (Settle n v)) ≤ 21
    settle true = omega (arith, length-append (decimal n) (codes " yes"), length-decimal-le 10 n (omega arith) (omega arith) (omega arith))
    settle false = omega (arith, length-append (decimal n) (codes " no"), length-decimal-le 10 n (omega arith) (omega arith) (omega arith))
short_commands Back h = omega arith
short_commands Again h = omega arith
short_commands Look h = omega arith
short_commands (Next n) h = omega (arith, length-decimal-le 10 n (omega arith) (omega arith) (omega arith))

pub read_if_printed : ReadIfPrinted
read_if_printed line call = (accepted_printed line call, λ h. ap parsed h.1 ∙ printed_accepted call h.0)

pub others_refused : OthersRefused
others_refused line none = go (option_or (option_or (word_in line) (next_in line)) (settle_in line)) refl
  where
    go : (o : Option Call) → option_or (option_or (word_in line) (next_in line)) (settle_in line) ≡ o → ok_or o NoCommand ≡ Err NoCommand
    go None e = refl
    go (Some c) e = let printed = accepted_printed line c (ap (λ o. ok_or o NoCommand) e) in absurd (none c printed.0 printed.1)

pub long_refused : LongRefused
long_refused line h =
    others_refused line (λ call fits at. absurd (omega (arith, short_commands call fits, ap length at)))
