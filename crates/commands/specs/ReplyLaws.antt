-- The laws of the replies' lines.
use Rattle.std.specs.Prelude.{◌≡◌, ℕ, ◌^◌, ◌<◌, min, false, List, [], ◌∷◌, ◌++◌, codes, decimal}
use Rattle.assignment.specs.Knows.{has, value_of}
use Rattle.assignment.specs.Lattice.{inconsistent}
use Rattle.assignment.specs.declared.assignment.Assignment.{Assignment}
use Rattle.calls.specs.declared.refusal.CallRefusal.{CallRefusal}
use Rattle.calls.specs.declared.reply.Reply.{Reply}
use Rattle.calls.specs.declared.reply.Reply.TheVariants.{Done, Refused, Known, Dead, Listed}
use Rattle.listing.specs.declared.build.Build.{Build}
use Rattle.listing.specs.declared.progress.Progress.TheVariants.{Built, Stopped, End}
use Rattle.commands.specs.Lines.{lines, NoEnd}
use Rattle.commands.specs.Replies.{build_letters, letters_line, options_line, refused_line, refused_text, reply_line, reply_text}

-- the bytes are a text in which no line ends, and a line's end; so they are cut into this line, whatever is behind them
pub record OneLine (text bytes : List ℕ) : Type 0 where
  pub no_end : NoEnd text
  pub with_end : bytes ≡ text ++ (10 ∷ [])
  pub cut : (more : List ℕ) → lines (bytes ++ more) ≡ text ∷ lines more

-- the choices that a reply counts are a number of 32 bits
abbrev pub CountOf32Bits : Reply → Type 0
CountOf32Bits Done = Unit {0}
CountOf32Bits (Refused r) = Unit {0}
CountOf32Bits (Known a) = Unit {0}
CountOf32Bits Dead = Unit {0}
CountOf32Bits (Listed (Built b n)) = n < 2 ^ 32
CountOf32Bits (Listed (Stopped n)) = n < 2 ^ 32
CountOf32Bits (Listed (End n)) = n < 2 ^ 32

-- Each reply is one line, and so are the number of options, the letters of a build and the number of a refusal.
pub record OneLines : Type 0 where
  pub reply : (options : ℕ) (r : Reply) → CountOf32Bits r → OneLine (reply_text options r) (reply_line options r)
  pub options : (n : ℕ) → n < 2 ^ 32 → OneLine (codes "options " ++ decimal n) (options_line n)
  pub letters : (options : ℕ) (b : Build) → OneLine (build_letters b options) (letters_line options b)
  pub refused : (r : CallRefusal) → OneLine (refused_text r) (refused_line r)

-- two assignments have the same value at each of so many options, of which there are 64 at most
abbrev pub SameValues : ℕ → Assignment → Assignment → Type 0
SameValues options a b = (o : ℕ) → o < min options 64 → value_of a o ≡ value_of b o

-- each of so many options is yes in both builds, or no in both
abbrev pub SameYes : ℕ → Build → Build → Type 0
SameYes options b c = (o : ℕ) → o < min options 64 → has b.yes o ≡ has c.yes o

-- Two replies tell the same of so many options: they are of one kind, with the same number and the same values. An option
-- that is yes and no at once is told as yes, so values are told of what is consistent only.
pub data SameReply (options : ℕ) : Reply → Reply → Type 0 where
  done : SameReply options Done Done
  refused : (r : CallRefusal) → SameReply options (Refused r) (Refused r)
  known : {a b : Assignment} → (inconsistent a ≡ false → inconsistent b ≡ false → SameValues options a b) → SameReply options (Known a) (Known b)
  dead : SameReply options Dead Dead
  built : {b c : Build} {n : ℕ} → SameYes options b c → SameReply options (Listed (Built b n)) (Listed (Built c n))
  stopped : (n : ℕ) → SameReply options (Listed (Stopped n)) (Listed (Stopped n))
  at_end : (n : ℕ) → SameReply options (Listed (End n)) (Listed (End n))

-- Replies with the same line tell the same, and so it is with the number of options and the letters of a build.
pub record ToldApart : Type 0 where
  pub reply : (options : ℕ) (r s : Reply) → CountOf32Bits r → CountOf32Bits s → reply_line options r ≡ reply_line options s → SameReply options r s
  pub options : (m n : ℕ) → m < 2 ^ 32 → n < 2 ^ 32 → options_line m ≡ options_line n → m ≡ n
  pub letters : (options : ℕ) (b c : Build) → letters_line options b ≡ letters_line options c → SameYes options b c
