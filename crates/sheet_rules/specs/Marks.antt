-- What is known of a table's columns as two masks, to which rows are held.
use Rattle.std.specs.Prelude.{ℕ, ◌+◌, ◌*◌, ◌%◌, min, Bool, true, false, ◌&&◌, List, [], ◌∷◌, ◌==◌, bit_and}
use Rattle.assignment.specs.Knows.{knows}
use Rattle.assignment.specs.Size.{bit}
use Rattle.assignment.specs.declared.assignment.Assignment.{Assignment}
use Rattle.sheet_rules.specs.declared.known.Known.{Known}

-- what is known of one more column, which becomes the first
abbrev pub led_by : ℕ → Assignment → Known → Known
led_by c a k =
    record {
      yes = min (2 * k.yes + bit (knows a c true)) 65536;
      no = (2 * k.no + bit (knows a c false)) % 65536;
    }

-- Bit i of a mask is column i. Rows have 16 bits: a column from 16 on that is known yes sets bit 16, which no row has.
unfoldable pub known_of : List ℕ → Assignment → Known
known_of [] a = record { yes = 0; no = 0 }
known_of (c ∷ cs) a = led_by c a (known_of cs a)

-- the row has no bit that is known no, and all that are known yes
abbrev pub fits : Known → ℕ → Bool
fits k row = bit_and row k.no == 0 && bit_and row k.yes == k.yes
