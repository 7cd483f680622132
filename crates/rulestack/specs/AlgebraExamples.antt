-- Sixteen worked examples of the entries, over a few small sheets: what is replied, and which builds are allowed.
use Rattle.std.specs.Prelude.{◌≡◌, ℕ, zero, suc, ◌%◌, ◌^◌, Bool, true, false, ◌||◌, List, [], ◌∷◌, ◌==◌}
use Rattle.std.specs.List.{AllByRecursion}
use Rattle.std.proofs.Common.{mod-lt, arith}
use Rattle.assignment.specs.Lattice.{all, contradiction, inconsistent, less, less_fits, no_from, put, unknown}
use Rattle.assignment.specs.declared.assignment.Assignment.{Assignment}
use Rattle.assignment.specs.declared.value.Value.{Value}
use Rattle.assignment.specs.declared.value.Value.TheVariants.{Unknown, Yes, No, Inconsistent}
use Rattle.entries.specs.declared.entry.Entry.{Entry}
use Rattle.entries.specs.declared.entry.Entry.TheVariants.{Product, Either, Selection, Projection, Complement, None}
use Rattle.folders.specs.Entries.{Allowed, entry_allows, entry_reply}
use Rattle.ruleformat.specs.Contents.{Table, Wanted}
use Rattle.ruleset.specs.Listed.{Rule}
use Rattle.sheet_rules.specs.ClauseReply.{clauses_reply}
use Rattle.sheet_rules.specs.Laws.{ClausesAllow, TableAllows}
use Rattle.sheet_rules.specs.TableReply.{table_reply}

-- a module is a rule told both ways: what it replies, and which builds it allows
pub record Module : Type 1 where
  pub reply : Rule
  pub allows : Assignment → Type 0

abbrev pub of_table : Table → Module
of_table t = record { reply = table_reply t; allows = TableAllows t }

abbrev pub of_clauses : List (List Wanted) → Module
of_clauses cs = record { reply = clauses_reply cs; allows = ClausesAllow cs }

-- an entry over two modules, which are rules 0 and 1 below it

abbrev pub replies_of : Module → Module → ℕ → Rule
replies_of m n zero = m.reply
replies_of m n (suc k) = n.reply

abbrev pub allowed_of : Module → Module → Allowed
allowed_of m n zero = m.allows
allowed_of m n (suc k) = n.allows

abbrev pub over : Entry → Module → Module → Module
over e m n = record { reply = entry_reply e (replies_of m n); allows = entry_allows e (allowed_of m n) }

abbrev pub product : Module → Module → Module
product m n = over (Product 0 1) m n

abbrev pub either : Module → Module → Module
either m n = over (Either 0 1) m n

abbrev pub complement : Module → Module
complement m = over (Complement 0) m m

-- one option is hidden
abbrev pub hide : ℕ → Module → Module
hide o m = over (Projection 0 (2 ^ o)) m m

-- two ranges of options are equal
abbrev pub equal : (left right width : ℕ) → Module → Module
equal left right width m = over (Selection 0 left right width) m m

-- Rows and builds are numbers: bit i is set where option i is yes. So 1 is yes at option 0 alone, and 6 at 1 and 2.

-- options 0 to 2: ynn yny nyy
abbrev pub first : Module
first = of_table (record { columns = 0 ∷ 1 ∷ 2 ∷ []; rows = 1 ∷ 5 ∷ 6 ∷ [] })

-- options 0 to 2: ynn yyn nyy
abbrev pub second : Module
second = of_table (record { columns = 0 ∷ 1 ∷ 2 ∷ []; rows = 1 ∷ 3 ∷ 6 ∷ [] })

-- options 0 and 1: nn yy
abbrev pub alike : Module
alike = of_table (record { columns = 0 ∷ 1 ∷ []; rows = 0 ∷ 3 ∷ [] })

-- options 0 and 1: yn ny
abbrev pub unlike : Module
unlike = of_table (record { columns = 0 ∷ 1 ∷ []; rows = 1 ∷ 2 ∷ [] })

abbrev pub wants : ℕ → Wanted
wants o = record { option = o; negated = false }

abbrev pub wants_not : ℕ → Wanted
wants_not o = record { option = o; negated = true }

-- 1 or not 0
abbrev pub implied : Module
implied = of_clauses ((wants_not 0 ∷ wants 1 ∷ []) ∷ [])

-- 0 or 1, and 0 or not 1
abbrev pub either_way : Module
either_way = of_clauses ((wants 0 ∷ wants 1 ∷ []) ∷ (wants 0 ∷ wants_not 1 ∷ []) ∷ [])

-- every build
abbrev pub anything : Module
anything = of_clauses []

-- no build
abbrev pub nothing : Module
nothing = over None anything anything

-- what is known of the first options; every option behind them is no

abbrev pub with_value : ℕ → Value → Assignment → Assignment
with_value o Unknown a = a
with_value o Yes a = put o true a
with_value o No a = put o false a
with_value o Inconsistent a = put o true (put o false a)

abbrev pub two : (a b : Value) → Assignment
two a b = with_value 0 a (with_value 1 b (no_from 2 unknown))

abbrev pub three : (a b c : Value) → Assignment
three a b c = with_value 0 a (with_value 1 b (with_value 2 c (no_from 3 unknown)))

abbrev pub four : (a b c d : Value) → Assignment
four a b c d = with_value 0 a (with_value 1 b (with_value 2 c (with_value 3 d (no_from 4 unknown))))

abbrev pub build : ℕ → Assignment
build n =
    record { yes = n % 2 ^ 64; no = less all (n % 2 ^ 64); fits = (mod-lt n (omega arith), less_fits all (n % 2 ^ 64) (omega arith)) }

-- the numbers below n
abbrev pub numbers : ℕ → List ℕ
numbers zero = []
numbers (suc n) = n ∷ numbers n

abbrev pub is_in : List ℕ → ℕ → Bool
is_in [] n = false
is_in (k ∷ ks) n = n == k || is_in ks n

-- a build is allowed and comes back, or it is not and the reply to it is inconsistent
abbrev pub Judged : Bool → Module → Assignment → Type 0
Judged true m b = (m.reply b ≡ b) × m.allows b
Judged false m b = (inconsistent (m.reply b) ≡ true) × (m.allows b → ⊥)

-- The module replies to each question as the pair says. Of the builds in which every option but the first so many is no, it
-- allows exactly these.
pub record Example (m : Module) (options : ℕ) (replies : List (Assignment × Assignment)) (allowed : List ℕ) : Type 0 where
  pub replied : AllByRecursion (λ p. m.reply p.0 ≡ p.1) replies
  pub judged : AllByRecursion (λ n. Judged (is_in allowed n) m (build n)) (numbers (2 ^ options))

pub record AlgebraExamples : Type 0 where
  pub product_joins :
      Example (product first second) 3
      ((three Yes Unknown Unknown, three Yes No No) ∷
      (three Yes Yes Unknown, contradiction) ∷
      (three Unknown Yes Unknown, three No Yes Yes) ∷ [])
      (1 ∷ 6 ∷ [])
  pub product_with_itself :
      Example (product first first) 3
      ((three Yes Unknown Unknown, three Yes No Unknown) ∷ (three Yes Yes Unknown, contradiction) ∷ [])
      (1 ∷ 5 ∷ 6 ∷ [])
  pub product_without_models :
      Example (product alike unlike) 2
      ((two Unknown Unknown, two Unknown Unknown) ∷
      (two Yes Unknown, two Yes Inconsistent) ∷
      (two Unknown No, two Inconsistent No) ∷ [])
      []
  pub either_meets :
      Example (either first second) 3
      ((three Yes Unknown Unknown, three Yes Unknown Unknown) ∷
      (three Unknown No Unknown, three Yes No Unknown) ∷
      (three Unknown Unknown No, three Yes Unknown No) ∷ [])
      (1 ∷ 3 ∷ 5 ∷ 6 ∷ [])
  pub either_one_refuses :
      Example (either second first) 3
      ((three Yes Yes Unknown, three Yes Yes No) ∷
      (three Yes Unknown Yes, three Yes No Yes) ∷
      (three No No Unknown, contradiction) ∷ [])
      (1 ∷ 3 ∷ 5 ∷ 6 ∷ [])
  pub either_both_refuse :
      Example (either (equal 0 1 1 anything) (equal 2 3 1 anything)) 4
      ((four Yes No Unknown Yes, four Yes No Yes Yes) ∷
      (four Unknown No Yes No, four No No Yes No) ∷
      (four Yes No Yes No, contradiction) ∷ [])
      (0 ∷ 1 ∷ 2 ∷ 3 ∷ 4 ∷ 7 ∷ 8 ∷ 11 ∷ 12 ∷ 13 ∷ 14 ∷ 15 ∷ [])
  pub either_with_nothing :
      Example (either first nothing) 3
      ((three Yes Unknown Unknown, three Yes No Unknown) ∷ (three No No Unknown, contradiction) ∷ [])
      (1 ∷ 5 ∷ 6 ∷ [])
  pub complement_adds_nothing :
      Example (complement first) 3
      ((three Yes Unknown Unknown, three Yes Unknown Unknown) ∷
      (three Yes No Unknown, three Yes No Unknown) ∷
      (three Yes Yes Unknown, three Yes Yes Unknown) ∷ [])
      (0 ∷ 2 ∷ 3 ∷ 4 ∷ 7 ∷ [])
  pub complement_twice :
      Example (complement (complement first)) 3
      ((three Yes Unknown Unknown, three Yes Unknown Unknown) ∷ (three Yes Yes Unknown, three Yes Yes Unknown) ∷ [])
      (1 ∷ 5 ∷ 6 ∷ [])
  pub complement_of_selection :
      Example (complement (equal 0 2 1 implied)) 3
      ((three Yes Unknown No, three Yes Unknown No) ∷
      (three Yes Yes No, three Yes Yes No) ∷
      (three Yes Yes Yes, contradiction) ∷ [])
      (1 ∷ 3 ∷ 4 ∷ 5 ∷ 6 ∷ [])
  pub de_morgan :
      Example (complement (either first second)) 3 ((three No No Unknown, three No No Unknown) ∷ [])
      (0 ∷ 2 ∷ 4 ∷ 7 ∷ [])
      × Example (product (complement first) (complement second)) 3 ((three No No Unknown, three No No Unknown) ∷ [])
      (0 ∷ 2 ∷ 4 ∷ 7 ∷ [])
  pub projection_forgets :
      Example (hide 1 first) 3
      ((three Unknown Unknown No, three Yes Unknown No) ∷
      (three Unknown Yes Unknown, three Unknown Yes Unknown) ∷
      (three Unknown Yes No, three Yes Yes No) ∷
      (three No Unknown No, contradiction) ∷ [])
      (1 ∷ 3 ∷ 4 ∷ 5 ∷ 6 ∷ 7 ∷ [])
  pub projection_searches :
      Example (hide 1 either_way) 3
      ((three No Unknown Unknown, three No Unknown Unknown) ∷
      (three No Unknown No, contradiction) ∷
      (three Yes Unknown No, three Yes Unknown No) ∷ [])
      (1 ∷ 3 ∷ 5 ∷ 7 ∷ [])
  pub selection_copies :
      Example (equal 0 2 1 implied) 3
      ((three Yes Unknown Unknown, three Yes Yes Yes) ∷
      (three Unknown Unknown Yes, three Yes Unknown Yes) ∷
      (three Unknown No Unknown, three No No No) ∷
      (three Yes Unknown No, three Inconsistent Yes Inconsistent) ∷ [])
      (0 ∷ 2 ∷ 7 ∷ [])
      × Example (equal 0 2 2 anything) 4
      ((four Yes Unknown Unknown No, four Yes No Yes No) ∷
      (four Unknown Yes No Unknown, four No Yes No Yes) ∷
      (four Yes Unknown No No, four Inconsistent No Inconsistent No) ∷ [])
      (0 ∷ 5 ∷ 10 ∷ 15 ∷ [])
  pub projection_of_product :
      Example (hide 1 (product alike unlike)) 2 ((two Unknown Unknown, two Unknown Unknown) ∷
      (two Yes Unknown, contradiction) ∷ [])
      []
      × Example (product (hide 1 alike) (hide 1 unlike)) 2 ((two Unknown Unknown, two Unknown Unknown) ∷
      (two Yes Unknown, two Yes Unknown) ∷ [])
      (0 ∷ 1 ∷ 2 ∷ 3 ∷ [])
  pub projection_of_complement :
      Example (hide 1 (complement first)) 3 ((three Yes Unknown No, three Yes Unknown No) ∷ [])
      (0 ∷ 1 ∷ 2 ∷ 3 ∷ 4 ∷ 5 ∷ 6 ∷ 7 ∷ [])
      × Example (complement (hide 1 first)) 3 ((three Yes Unknown No, three Yes Unknown No) ∷ [])
      (0 ∷ 2 ∷ [])
