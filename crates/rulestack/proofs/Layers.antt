-- A folder that carries every rule changes nothing, and drafts laid one after the other are a stack.
use Rattle.std.proofs.Common.{◌≡◌, ℕ, zero, suc, ◌+◌, ◌-◌, ◌<◌, ◌≤◌, cond, ◌⊎◌, List, [], ◌∷◌, ◌++◌, map, length, get_or, Option, sym, refl, ap, ◌∙◌, inl, inr, arith, MatchOption}
use mathlib.Core.Path.{fun_ext}
use Rattle.std.specs.Option.{option_to_list}
use Rattle.std.specs.declared.option.Option.TheVariants as option
use Rattle.std.proofs.lemmas.List.{get_or_append_left, get_or_past, get_or_push, length-map, length_push}
use Rattle.std.proofs.lemmas.Bool.{cases_lt, le-ltb}
use Rattle.assignment.specs.declared.assignment.Assignment.{Assignment}
use Rattle.entries.specs.Drafts.{carries, drafted}
use Rattle.entries.specs.declared.draft.Draft.{Draft}
use Rattle.entries.specs.declared.entry.Entry.{Entry}
use Rattle.entries.specs.declared.entry.Entry.TheVariants.{Carry, None}
use Rattle.folders.specs.Entries.{entry_reply}
use Rattle.folders.specs.Folders.{folder, stack}
use Rattle.folders.proofs.Stacks.{reply_at}
use Rattle.ruleset.specs.Listed.{nothing}
use Rattle.ruleset.specs.Meaning.{Lawful, Meaning}
use Rattle.rulestack.specs.Laid.{laid}

carries_length : (n : ℕ) → length (carries n) ≡ n
unfolding carries
carries_length zero = refl
carries_length (suc n) = length_push (carries n) (Carry n) ∙ omega (arith, carries_length n)

carries_at : (n k : ℕ) → k < n → get_or (carries n) k None ≡ Carry k
unfolding carries
carries_at zero k h = absurd (omega arith)
carries_at (suc n) k h = go (cases_lt k n) (carries_at n k)
  where
    go : (k < n) ⊎ (n ≤ k) → (k < n → get_or (carries n) k None ≡ Carry k) → get_or (carries n ++ Carry n ∷ []) k None ≡ Carry k
    go (inl l) rest = get_or_append_left (carries n) (Carry n ∷ []) None k (omega (arith, carries_length n)) ∙ rest l
    go (inr l) rest =
        let at : k ≡ n = omega arith in
        get_or_push (carries n) (Carry n) None k (carries_length n ∙ sym at) ∙ ap Carry (sym at)

pub few_rules : (d : Draft) (m : Meaning) → (folder (drafted d) m).count ≤ 32
few_rules d m =
    omega (arith, length-map (drafted d) (λ e. entry_reply e m.reply), d.entries.ok.0, d.few)

pub carried : (m : Meaning) → Lawful m → m.count ≤ 32 → folder (carries m.count) m ≡ m
carried m l few = λ i. record { count = counts i; reply = replies i }
  where
    es : List Entry
    es = carries m.count

    counts : (folder es m).count ≡ m.count
    counts = omega (arith, length-map es (λ e. entry_reply e m.reply), carries_length m.count)

    reply : (k : ℕ) (a : Assignment) → (k < m.count) ⊎ (m.count ≤ k) → (k < 64) ⊎ (64 ≤ k) → (folder es m).reply k a ≡ m.reply k a
    reply k a (inl h) (inl s) =
        ap (λ f. f a) (reply_at es m k s) ∙ ap (λ e. entry_reply e m.reply a) (carries_at m.count k h)
    reply k a (inl h) (inr s) = absurd (omega arith)
    reply k a (inr h) (inl s) =
        ap (λ f. f a) (reply_at es m k s)
        ∙ ap (λ e. entry_reply e m.reply a) (get_or_past es k None (omega (arith, carries_length m.count)))
        ∙ sym (l.absent k a h)
    reply k a (inr h) (inr s) =
        ap (λ c. cond c (get_or (map (λ e. entry_reply e m.reply) es) k nothing) nothing a) (le-ltb k 64 s)
        ∙ sym (l.absent k a h)

    replies : (folder es m).reply ≡ m.reply
    replies = fun_ext (λ k. fun_ext (λ a. reply k a (cases_lt k m.count) (cases_lt k 64)))

-- what is taken from the front of a list is laid next
laid_next : (d : Option Draft) (ds : List Draft) (m : Meaning) → stack (map drafted (option_to_list d ++ ds)) m ≡ stack (map drafted ds) (laid d m)
unfolding stack
laid_next option.None ds m = refl
laid_next (option.Some d) ds m = refl

laid_end : (m : Meaning) (ds : List Draft) → length ds ≡ 0 → stack (map drafted ds) m ≡ m
unfolding stack
laid_end m [] e = refl
laid_end m (d ∷ ds) e = absurd (omega arith)

-- four drafts taken from the front of a list, which is then empty, are the stack of the list
pub four_laid : (m : Meaning) (ds ds₁ ds₂ ds₃ ds₄ : List Draft) (d₁ d₂ d₃ d₄ : Option Draft) → ds ≡ option_to_list d₁ ++ ds₁ → ds₁ ≡ option_to_list d₂ ++ ds₂ → ds₂ ≡ option_to_list d₃ ++ ds₃ → ds₃ ≡ option_to_list d₄ ++ ds₄ → length ds₄ ≡ 0 → laid d₄ (laid d₃ (laid d₂ (laid d₁ m))) ≡ stack (map drafted ds) m
four_laid m ds ds₁ ds₂ ds₃ ds₄ d₁ d₂ d₃ d₄ e₁ e₂ e₃ e₄ done =
    sym (next m ds ds₁ d₁ e₁ ∙ next (laid d₁ m) ds₁ ds₂ d₂ e₂ ∙ next (laid d₂ (laid d₁ m)) ds₂ ds₃ d₃ e₃
    ∙ next (laid d₃ (laid d₂ (laid d₁ m))) ds₃ ds₄ d₄ e₄ ∙ laid_end (laid d₄ (laid d₃ (laid d₂ (laid d₁ m)))) ds₄ done)
  where
    next : (n : Meaning) (before after : List Draft) (d : Option Draft) → before ≡ option_to_list d ++ after → stack (map drafted before) n ≡ stack (map drafted after) (laid d n)
    next n before after d e = ap (λ xs. stack (map drafted xs) n) e ∙ laid_next d after n

-- one less where there was one
pub one_less : (d : Option Draft) (before after : ℕ) (P : Draft → Type 0) → MatchOption d ((before ≡ 0) × (after ≡ 0)) (λ x. P x × (after + 1 ≡ before)) → after ≡ before - 1
one_less option.None before after P h = omega (arith, h.0, h.1)
one_less (option.Some d) before after P h = omega (arith, h.1)
