-- The lines of the replies, and how a line is written.
use Rattle.std.specs.Prelude.{ℕ, min, cond, List, ◌++◌, length, drop, map, codes, decimal}
use Rattle.std.specs.Borrow.{Bor}
use Rattle.std.specs.List.{flat_map, range_with_len}
use Rattle.assignment.specs.Knows.{has, value_of}
use Rattle.assignment.specs.declared.assignment.Assignment.{Assignment}
use Rattle.assignment.specs.declared.value.Value.{Value}
use Rattle.assignment.specs.declared.value.Value.TheVariants.{Unknown, Yes, No, Inconsistent}
use Rattle.calls.specs.Numbers.{number_of}
use Rattle.calls.specs.declared.refusal.CallRefusal.{CallRefusal}
use Rattle.calls.specs.declared.reply.Reply.{Reply}
use Rattle.calls.specs.declared.reply.Reply.TheVariants.{Done, Refused, Known, Dead, Listed}
use Rattle.listing.specs.declared.build.Build.{Build}
use Rattle.listing.specs.declared.progress.Progress.{Progress}
use Rattle.listing.specs.declared.progress.Progress.TheVariants.{Built, Stopped, End}

-- a text, and the line's end
abbrev pub ended : List ℕ → List ℕ
ended text = text ++ codes "\n"

-- a text over the front of what was there
abbrev pub over : List ℕ → List ℕ → List ℕ
over text was = text ++ drop (length text) was

-- pieces, one after the other
abbrev pub text_in : List (Bor (List ℕ)) → List ℕ
text_in pieces = flat_map (λ piece. piece.now) pieces

-- `y`, `n` or `?`; an option that is known yes and no is told as yes
abbrev pub letter_of : Value → ℕ
letter_of Yes = 121
letter_of Inconsistent = 121
letter_of No = 110
letter_of Unknown = 63

abbrev pub known_letter : Assignment → ℕ → ℕ
known_letter a i = letter_of (value_of a i)

abbrev pub build_letter : Build → ℕ → ℕ
build_letter b i = cond (has b.yes i) 121 110

-- a letter for each of so many options, of which there are 64 at most
abbrev pub known_letters : Assignment → ℕ → List ℕ
known_letters a options = map (known_letter a) (range_with_len 0 (min options 64))

abbrev pub build_letters : Build → ℕ → List ℕ
build_letters b options = map (build_letter b) (range_with_len 0 (min options 64))

abbrev pub progress_text : ℕ → Progress → List ℕ
progress_text options (Built b n) = codes "build " ++ build_letters b options ++ codes " " ++ decimal n
progress_text options (Stopped n) = codes "stopped " ++ decimal n
progress_text options (End n) = codes "end " ++ decimal n

abbrev pub refused_text : CallRefusal → List ℕ
refused_text r = codes "refused " ++ decimal (number_of r)

abbrev pub reply_text : ℕ → Reply → List ℕ
reply_text options Done = codes "ok"
reply_text options (Refused r) = refused_text r
reply_text options (Known a) = codes "known " ++ known_letters a options
reply_text options Dead = codes "dead"
reply_text options (Listed progress) = progress_text options progress

abbrev pub reply_line : ℕ → Reply → List ℕ
reply_line options reply = ended (reply_text options reply)

abbrev pub options_line : ℕ → List ℕ
options_line options = ended (codes "options " ++ decimal options)

abbrev pub letters_line : ℕ → Build → List ℕ
letters_line options build = ended (build_letters build options)

abbrev pub refused_line : CallRefusal → List ℕ
refused_line r = ended (refused_text r)
