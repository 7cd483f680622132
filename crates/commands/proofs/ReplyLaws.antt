-- The replies' lines are one line each, and told apart.
use Rattle.std.proofs.Common.{◌≡◌, ℕ, ◌<◌, ◌^◌, min, Bool, true, false, cond, not, ◌==◌, List, [], ◌∷◌, ◌++◌, length, take, drop, get_or, map, codes, refl, sym, ap, subst, ◌∙◌, arith}
use Rattle.std.specs.Char.{is_ascii_digit}
use Rattle.std.specs.Fmt.{decimal}
use Rattle.std.specs.List.{list_all, range_with_len}
use Rattle.std.proofs.lemmas.Bool.{and_parts, both_ways, eqb-true, not-true}
use Rattle.std.proofs.lemmas.Fmt.{decimal_injective, digits_decimal}
use Rattle.std.proofs.lemmas.List.{append_assoc, append_cancel_left, append_cancel_right, drop_at, take_at}
use Rattle.std.proofs.lemmas.List.FromFn.{get_or-map-range_with_len, length-map-range_with_len}
use Rattle.assignment.specs.Knows.{has, knows, value_from, value_of}
use Rattle.assignment.specs.Lattice.{inconsistent}
use Rattle.assignment.specs.Laws.{inconsistent_at}
use Rattle.assignment.specs.declared.assignment.Assignment.{Assignment}
use Rattle.assignment.specs.declared.value.Value.{Value}
use Rattle.assignment.specs.declared.value.Value.TheVariants.{Unknown, Yes, No, Inconsistent}
use Rattle.calls.specs.Numbers.{number_of}
use Rattle.calls.specs.declared.refusal.CallRefusal.{CallRefusal}
use Rattle.calls.specs.declared.refusal.CallRefusal.TheVariants.{NoOption, Fixed, NothingSettled, NoCommand}
use Rattle.calls.specs.declared.reply.Reply.{Reply}
use Rattle.calls.specs.declared.reply.Reply.TheVariants.{Done, Refused, Known, Dead, Listed}
use Rattle.listing.specs.declared.build.Build.{Build}
use Rattle.listing.specs.declared.progress.Progress.TheVariants.{Built, Stopped, End}
use Rattle.commands.specs.Lines.{lines, NoEnd}
use Rattle.commands.specs.Replies.{build_letter, build_letters, ended, known_letter, known_letters, letter_of, reply_text}
use Rattle.commands.specs.ReplyLaws.{OneLine, OneLines, SameReply, done, refused, known, dead, built, stopped, at_end, SameValues, SameYes, CountOf32Bits, ToldApart}
use Rattle.commands.proofs.LineLaws.{first_line}
use Rattle.commands.proofs.Numbers.{own}

-- what is written ends no line

no_end : (xs : List ℕ) → list_all (λ b. not (b == 10)) xs ≡ true → NoEnd xs
no_end [] e = tt
no_end (b ∷ bs) e = let parts = and_parts (not (b == 10)) (list_all (λ c. not (c == 10)) bs) e in (not-true (b == 10) parts.0, no_end bs parts.1)

no_end_both : (xs ys : List ℕ) → NoEnd xs → NoEnd ys → NoEnd (xs ++ ys)
no_end_both [] ys m n = n
no_end_both (b ∷ bs) ys m n = (m.0, no_end_both bs ys m.1 n)

no_end_digit : (d : ℕ) → is_ascii_digit d ≡ true → (d == 10) ≡ false
no_end_digit d e = go (d == 10) refl
  where
    go : (t : Bool) → (d == 10) ≡ t → t ≡ false
    go true at = absurd (both_ways (is_ascii_digit 10) refl (sym (ap is_ascii_digit (eqb-true d 10 at)) ∙ e))
    go false at = refl

no_end_digits : (ds : List ℕ) → list_all is_ascii_digit ds ≡ true → NoEnd ds
no_end_digits [] e = tt
no_end_digits (d ∷ ds) e = let parts = and_parts (is_ascii_digit d) (list_all is_ascii_digit ds) e in (no_end_digit d parts.0, no_end_digits ds parts.1)

no_end_number : (n : ℕ) → n < 2 ^ 32 → NoEnd (decimal n)
no_end_number n h = no_end_digits (decimal n) (digits_decimal own n (omega arith))

no_end_mapped : (f : ℕ → ℕ) → ((i : ℕ) → (f i == 10) ≡ false) → (xs : List ℕ) → NoEnd (map f xs)
no_end_mapped f each [] = tt
no_end_mapped f each (x ∷ xs) = (each x, no_end_mapped f each xs)

no_end_letter : (v : Value) → (letter_of v == 10) ≡ false
no_end_letter Yes = refl
no_end_letter No = refl
no_end_letter Unknown = refl
no_end_letter Inconsistent = refl

no_end_known : (a : Assignment) (options : ℕ) → NoEnd (known_letters a options)
no_end_known a options = no_end_mapped (known_letter a) (λ i. no_end_letter (value_of a i)) (range_with_len 0 (min options 64))

no_end_build : (b : Build) (options : ℕ) → NoEnd (build_letters b options)
no_end_build b options = no_end_mapped (build_letter b) (λ i. go i (has b.yes i)) (range_with_len 0 (min options 64))
  where
    go : (i : ℕ) (t : Bool) → (cond t 121 110 == 10) ≡ false
    go i true = refl
    go i false = refl

no_end_refused : (r : CallRefusal) → number_of r < 2 ^ 32
no_end_refused NoOption = omega arith
no_end_refused Fixed = omega arith
no_end_refused NothingSettled = omega arith
no_end_refused NoCommand = omega arith

no_end_word : (word : List ℕ) (n : ℕ) → list_all (λ b. not (b == 10)) word ≡ true → n < 2 ^ 32 → NoEnd (word ++ decimal n)
no_end_word word n e h = no_end_both word (decimal n) (no_end word e) (no_end_number n h)

no_end_reply : (options : ℕ) (r : Reply) → CountOf32Bits r → NoEnd (reply_text options r)
no_end_reply n Done h = no_end (codes "ok") refl
no_end_reply n (Refused r) h = no_end_word (codes "refused ") (number_of r) refl (no_end_refused r)
no_end_reply n (Known a) h = no_end_both (codes "known ") (known_letters a n) (no_end (codes "known ") refl) (no_end_known a n)
no_end_reply n Dead h = no_end (codes "dead") refl
no_end_reply n (Listed (Built b m)) h =
    let front = no_end_both (codes "build ") (build_letters b n) (no_end (codes "build ") refl) (no_end_build b n) in
    no_end_both (codes "build " ++ build_letters b n ++ codes " ") (decimal m)
    (no_end_both (codes "build " ++ build_letters b n) (codes " ") front (no_end (codes " ") refl)) (no_end_number m h)
no_end_reply n (Listed (Stopped m)) h = no_end_word (codes "stopped ") m refl h
no_end_reply n (Listed (End m)) h = no_end_word (codes "end ") m refl h

one_line : (text : List ℕ) → NoEnd text → OneLine text (ended text)
one_line text n =
    record {
      no_end = n;
      with_end = refl;
      cut = λ more. ap lines (append_assoc text (10 ∷ []) more) ∙ first_line text more n;
    }

pub one_lines : OneLines
one_lines =
    record {
      reply = λ n r h. one_line (reply_text n r) (no_end_reply n r h);
      options = λ n h. one_line (codes "options " ++ decimal n) (no_end_word (codes "options ") n refl h);
      letters = λ n b. one_line (build_letters b n) (no_end_build b n);
      refused = λ r. one_line (codes "refused " ++ decimal (number_of r)) (no_end_word (codes "refused ") (number_of r) refl (no_end_refused r));
    }

-- what is written tells what it was written of

same_number : (word : List ℕ) (m n : ℕ) → m < 2 ^ 32 → n < 2 ^ 32 → word ++ decimal m ≡ word ++ decimal n → m ≡ n
same_number word m n h k e =
    decimal_injective m n (omega arith) (omega arith) (append_cancel_left word (decimal m) (decimal n) e)

same_refusal : (r s : CallRefusal) → number_of r ≡ number_of s → r ≡ s
same_refusal NoOption NoOption e = refl
same_refusal Fixed Fixed e = refl
same_refusal NothingSettled NothingSettled e = refl
same_refusal NoCommand NoCommand e = refl
same_refusal r s e = absurd (omega arith)

same_mapped : (f g : ℕ → ℕ) (n : ℕ) → map f (range_with_len 0 n) ≡ map g (range_with_len 0 n) → (o : ℕ) → o < n → f o ≡ g o
same_mapped f g n e o h =
    sym (get_or-map-range_with_len f 0 n o o 0 h (omega arith)) ∙ ap (λ (xs : List ℕ). get_or xs o 0) e
    ∙ get_or-map-range_with_len g 0 n o o 0 h (omega arith)

same_letter : (v w : Value) → (v ≡ Inconsistent → ⊥) → (w ≡ Inconsistent → ⊥) → letter_of v ≡ letter_of w → v ≡ w
same_letter Yes Yes p q e = refl
same_letter No No p q e = refl
same_letter Unknown Unknown p q e = refl
same_letter Inconsistent w p q e = absurd (p refl)
same_letter v Inconsistent p q e = absurd (q refl)
same_letter v w p q e = absurd (omega arith)

not_both : (a : Assignment) → inconsistent a ≡ false → (o : ℕ) → value_of a o ≡ Inconsistent → ⊥
unfolding knows
not_both a c o = go (has a.yes o) refl (has a.no o) refl
  where
    go : (y : Bool) → has a.yes o ≡ y → (n : Bool) → has a.no o ≡ n → value_from y n ≡ Inconsistent → ⊥
    go true at true e h = both_ways (inconsistent a) c (inconsistent_at a o at e)
    go true at false e h = cc
    go false at true e h = cc
    go false at false e h = cc

same_values : (options : ℕ) (a b : Assignment) → inconsistent a ≡ false → inconsistent b ≡ false → known_letters a options ≡ known_letters b options → SameValues options a b
same_values options a b p q e o h =
    same_letter (value_of a o) (value_of b o) (not_both a p o) (not_both b q o)
    (same_mapped (known_letter a) (known_letter b) (min options 64) e o h)

same_yes : (options : ℕ) (b c : Build) → build_letters b options ≡ build_letters c options → SameYes options b c
same_yes options b c e o h = go (has b.yes o) (has c.yes o) (same_mapped (build_letter b) (build_letter c) (min options 64) e o h)
  where
    letter : Bool → ℕ
    letter t = cond t 121 110

    go : (s t : Bool) → letter s ≡ letter t → s ≡ t
    go true true e = refl
    go false false e = refl
    go s t e = absurd (omega arith)

-- two texts that begin with as many bytes
same_front : (xs ys us vs : List ℕ) → length xs ≡ length ys → xs ++ us ≡ ys ++ vs → (xs ≡ ys) × (us ≡ vs)
same_front xs ys us vs l e = (
  sym (take_at xs us (length xs) refl) ∙ ap (take (length xs)) e ∙ take_at ys vs (length xs) (sym l),
  sym (drop_at xs us (length xs) refl) ∙ ap (drop (length xs)) e ∙ drop_at ys vs (length xs) (sym l),
)

built_parts : (options : ℕ) (b : Build) (m : ℕ) → reply_text options (Listed (Built b m)) ≡ codes "build " ++ (build_letters b options ++ (codes " " ++ decimal m))
built_parts options b m =
    append_assoc (codes "build " ++ build_letters b options) (codes " ") (decimal m)
    ∙ append_assoc (codes "build ") (build_letters b options) (codes " " ++ decimal m)

same_built : (options : ℕ) (b c : Build) (m n : ℕ) → m < 2 ^ 32 → n < 2 ^ 32 → reply_text options (Listed (Built b m)) ≡ reply_text options (Listed (Built c n)) → SameYes options b c × (m ≡ n)
same_built options b c m n h k e =
    let behind =
    append_cancel_left (codes "build ") (build_letters b options ++ (codes " " ++ decimal m)) (build_letters c options ++ (codes " " ++ decimal n))
    (sym (built_parts options b m) ∙ e ∙ built_parts options c n) in
    let as_long =
    length-map-range_with_len (build_letter b) 0 (min options 64) ∙ sym (length-map-range_with_len (build_letter c) 0 (min options 64)) in
    let parts = same_front (build_letters b options) (build_letters c options) (codes " " ++ decimal m) (codes " " ++ decimal n) as_long behind in
    (same_yes options b c parts.0, same_number (codes " ") m n h k parts.1)

apart : (options : ℕ) (r s : Reply) → CountOf32Bits r → CountOf32Bits s → reply_text options r ≡ reply_text options s → SameReply options r s
apart n Done Done p q e = done
apart n (Refused r) (Refused s) p q e =
    let numbers = same_number (codes "refused ") (number_of r) (number_of s) (no_end_refused r) (no_end_refused s) e in
    subst (λ x. SameReply n (Refused r) (Refused x)) (same_refusal r s numbers) (refused r)
apart n (Known a) (Known b) p q e =
    known (λ c d. same_values n a b c d (append_cancel_left (codes "known ") (known_letters a n) (known_letters b n) e))
apart n Dead Dead p q e = dead
apart n (Listed (Built b m)) (Listed (Built c k)) p q e =
    let parts = same_built n b c m k p q e in
    subst (λ x. SameReply n (Listed (Built b m)) (Listed (Built c x))) parts.1 (built parts.0)
apart n (Listed (Stopped m)) (Listed (Stopped k)) p q e =
    subst (λ x. SameReply n (Listed (Stopped m)) (Listed (Stopped x))) (same_number (codes "stopped ") m k p q e) (stopped m)
apart n (Listed (End m)) (Listed (End k)) p q e =
    subst (λ x. SameReply n (Listed (End m)) (Listed (End x))) (same_number (codes "end ") m k p q e) (at_end m)
apart n r (Listed (Built c k)) p q e = absurd (omega (arith, ap (λ (xs : List ℕ). get_or xs 0 0) e))
apart n r (Listed (Stopped k)) p q e = absurd (omega (arith, ap (λ (xs : List ℕ). get_or xs 0 0) e))
apart n r (Listed (End k)) p q e = absurd (omega (arith, ap (λ (xs : List ℕ). get_or xs 0 0) e))
apart n r s p q e = absurd (omega (arith, ap (λ (xs : List ℕ). get_or xs 0 0) e))

pub told_apart : ToldApart
told_apart =
    record {
      reply = λ n r s p q e. apart n r s p q (append_cancel_right (reply_text n r) (reply_text n s) (10 ∷ []) e);
      options = λ m n h k e. same_number (codes "options ") m n h k (append_cancel_right (codes "options " ++ decimal m) (codes "options " ++ decimal n) (10 ∷ []) e);
      letters = λ n b c e. same_yes n b c (append_cancel_right (build_letters b n) (build_letters c n) (10 ∷ []) e);
    }
