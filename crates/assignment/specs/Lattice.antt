-- The lattice of assignments by precision, and what may be done with an assignment.
use Rattle.std.specs.Prelude.{◌≡◌, ℕ, ◌+◌, ◌-◌, ◌%◌, ◌^◌, ◌<◌, Bool, true, false, cond, not, ◌&&◌, ◌==◌, bit_and, bit_or, bit_xor, nat_le, nat_lt}
use Rattle.std.proofs.Common.{lt_of_le_of_lt, mod-lt, arith}
use Rattle.std.proofs.lemmas.Nat.{and_le_l, or_lt, xor_lt}
use Rattle.std.proofs.Math.Pow.{pow-lt}
use Rattle.std.proofs.lemmas.Bool.{cond_both, ltb-true}
use Rattle.assignment.specs.Knows.{knows}
use Rattle.assignment.specs.Masks.{moved}
use Rattle.assignment.specs.declared.assignment.Assignment.{Assignment}

-- all 64 bits
abbrev pub all : ℕ
all = 2 ^ 64 - 1

-- nothing is known of any option
unfoldable pub unknown : Assignment
unknown = record { yes = 0; no = 0; fits = (omega arith, omega arith) }

-- every option is inconsistent
unfoldable pub contradiction : Assignment
contradiction = record { yes = all; no = all; fits = (omega arith, omega arith) }

-- all that either knows
unfoldable pub join : Assignment → Assignment → Assignment
join a b =
    record {
      yes = bit_or a.yes b.yes;
      no = bit_or a.no b.no;
      fits = (or_lt 64 a.yes b.yes a.fits.0 b.fits.0, or_lt 64 a.no b.no a.fits.1 b.fits.1);
    }

-- what both know
unfoldable pub meet : Assignment → Assignment → Assignment
meet a b =
    record {
      yes = bit_and a.yes b.yes;
      no = bit_and a.no b.no;
      fits = (lt_of_le_of_lt (and_le_l a.yes b.yes) a.fits.0, lt_of_le_of_lt (and_le_l a.no b.no) a.fits.1);
    }

-- a is at least as precise as b: joining the two gives a
pub record Refines (a b : Assignment) : Type 0 where
  pub joined : join a b ≡ a

-- some option is known both yes and no
unfoldable pub inconsistent : Assignment → Bool
inconsistent a = not (bit_and a.yes a.no == 0)

-- a build: every option is yes or no, and none is both
unfoldable pub total : Assignment → Bool
total a = bit_or a.yes a.no == all && not (inconsistent a)

abbrev pub Total : Assignment → Type 0
Total a = total a ≡ true

unfoldable pub same : Assignment → Assignment → Bool
same a b = a.yes == b.yes && a.no == b.no

-- an inconsistent assignment made the contradiction, any other as it is
abbrev pub whole : Assignment → Assignment
whole a = cond (inconsistent a) contradiction a

-- the mask of one option; of none from 64 on
abbrev pub one : ℕ → ℕ
one i = cond (nat_lt i 64) (2 ^ i) 0

pub one_fits : (i : ℕ) → one i < 2 ^ 64
one_fits i = cond_both (nat_lt i 64) (2 ^ i) 0 (λ n. n < 2 ^ 64) (λ e. pow-lt (ltb-true i 64 e)) (λ e. omega arith)

-- a with option i known to have a value; an option from 64 on is no option
unfoldable pub put : ℕ → Bool → Assignment → Assignment
put i true a =
    record {
      yes = bit_or a.yes (one i);
      no = a.no;
      fits = (or_lt 64 a.yes (one i) a.fits.0 (one_fits i), a.fits.1);
    }
put i false a =
    record {
      yes = a.yes;
      no = bit_or a.no (one i);
      fits = (a.fits.0, or_lt 64 a.no (one i) a.fits.1 (one_fits i));
    }

-- the bits of a mask that another does not have
abbrev pub less : ℕ → ℕ → ℕ
less m hidden = bit_xor m (bit_and m hidden)

pub less_fits : (m hidden : ℕ) → m < 2 ^ 64 → less m hidden < 2 ^ 64
less_fits m hidden h = xor_lt 64 m (bit_and m hidden) h (lt_of_le_of_lt (and_le_l m hidden) h)

-- a with the options of a mask made unknown
unfoldable pub outside : ℕ → Assignment → Assignment
outside hidden a =
    record {
      yes = less a.yes hidden;
      no = less a.no hidden;
      fits = (less_fits a.yes hidden a.fits.0, less_fits a.no hidden a.fits.1);
    }

-- a with all but the options of a mask made unknown
unfoldable pub within : ℕ → Assignment → Assignment
within hidden a =
    record {
      yes = bit_and a.yes hidden;
      no = bit_and a.no hidden;
      fits = (lt_of_le_of_lt (and_le_l a.yes hidden) a.fits.0, lt_of_le_of_lt (and_le_l a.no hidden) a.fits.1);
    }

-- of each option that is not in the mask something is known
unfoldable pub known_outside : ℕ → Assignment → Bool
known_outside hidden a = less (less all (bit_or a.yes a.no)) hidden == 0

-- both ranges of a mask, each as wide as the width says, get the bits of the other
abbrev pub shared : (left right width : ℕ) → ℕ → ℕ
shared left right width m = bit_or m (bit_or (moved right left width m) (moved left right width m))

pub shared_fits : (left right width m : ℕ) → m < 2 ^ 64 → shared left right width m < 2 ^ 64
unfolding moved
shared_fits left right width m h =
    or_lt 64 m (bit_or (moved right left width m) (moved left right width m)) h
    (or_lt 64 (moved right left width m) (moved left right width m) (mod-lt _ (omega arith)) (mod-lt _ (omega arith)))

-- options left + i and right + i, for each i below the width, both get what is known of either
unfoldable pub equate : (left right width : ℕ) → Assignment → Assignment
equate left right width a =
    record {
      yes = shared left right width a.yes;
      no = shared left right width a.no;
      fits = (shared_fits left right width a.yes a.fits.0, shared_fits left right width a.no a.fits.1);
    }

-- in the range from `to` on, what is known of the option at the same place in the range from `from` on
abbrev pub copied : (from to width : ℕ) → Assignment → ℕ → Bool → Bool
copied from to width a o v = nat_le to o && (nat_lt (o - to) width && knows a (o - to + from) v)

-- the bits of a mask of 64 from bit `first` on
abbrev pub bits_from : ℕ → ℕ
bits_from first = less all (all % 2 ^ first)

-- a with every option from `first` on known no
unfoldable pub no_from : ℕ → Assignment → Assignment
no_from first a =
    record {
      yes = a.yes;
      no = bit_or a.no (bits_from first);
      fits = (a.fits.0, or_lt 64 a.no (bits_from first) a.fits.1 (less_fits all (all % 2 ^ first) (omega arith)));
    }
