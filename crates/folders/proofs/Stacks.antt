-- Folders and stacks keep the promises and allow the builds that the table says.
use Rattle.std.proofs.Common.{◌≡◌, ℕ, zero, suc, ◌<◌, ◌≤◌, min, cond, ◌⊎◌, ◌↔◌, List, [], ◌∷◌, ◌++◌, map, length, get_or, sym, refl, ap, ◌∙◌, subst, inl, inr, arith}
use Rattle.std.proofs.lemmas.List.{get_or_past, length-map}
use Rattle.std.proofs.lemmas.Bool.{cases_lt, le-ltb, lt-ltb}
use Rattle.assignment.specs.Lattice.{contradiction, Total}
use Rattle.assignment.specs.declared.assignment.Assignment.{Assignment}
use Rattle.entries.specs.Drafts.{drafted}
use Rattle.entries.specs.declared.draft.Draft.{Draft}
use Rattle.entries.specs.declared.entry.Entry.{Entry}
use Rattle.entries.specs.declared.entry.Entry.TheVariants.{Carry, Product, Either, Selection, Projection, Complement, None}
use Rattle.folders.specs.Entries.{Allowed, entry_allows, entry_reply}
use Rattle.folders.specs.Folders.{folder, folder_allows, Small, stack, stack_allows}
use Rattle.folders.specs.Lawful.{folder_lawful}
use Rattle.folders.specs.Statements.{FolderReplies, StackAllows, StackLawful}
use Rattle.folders.proofs.Builds.{entry_builds, not_dead}
use Rattle.ruleset.specs.Listed.{nothing}
use Rattle.ruleset.specs.Meaning.{Allows, Lawful, lawful_rule, Meaning}

-- two ways to say which builds are allowed come to the same
abbrev pub Alike : Allowed → Allowed → Type 0
Alike A B = (k : ℕ) (d : Assignment) → Total d → A k d ↔ B k d

both : {P Q R S : Type 0} → P ↔ Q → R ↔ S → (P × R) ↔ (Q × S)
both p r = (λ x. (p.0 x.0, r.0 x.1), λ x. (p.1 x.0, r.1 x.1))

one_of : {P Q R S : Type 0} → P ↔ Q → R ↔ S → (P ⊎ R) ↔ (Q ⊎ S)
one_of {P} {Q} {R} {S} p r = (to, from)
  where
    to : P ⊎ R → Q ⊎ S
    to (inl x) = inl (p.0 x)
    to (inr x) = inr (r.0 x)

    from : Q ⊎ S → P ⊎ R
    from (inl x) = inl (p.1 x)
    from (inr x) = inr (r.1 x)

pub entry_alike : (e : Entry) (A B : Allowed) → Alike A B → (b : Assignment) → Total b → entry_allows e A b ↔ entry_allows e B b
entry_alike (Carry r) A B s b t = s r b t
entry_alike (Product r q) A B s b t = both (s r b t) (s q b t)
entry_alike (Either r q) A B s b t = one_of (s r b t) (s q b t)
entry_alike (Selection r left right width) A B s b t = both (s r b t) (λ p. p, λ p. p)
entry_alike (Projection r hidden) A B s b t =
    (λ x. (x.0, x.1, (s r x.0 x.1).0 x.2, x.3), λ x. (x.0, x.1, (s r x.0 x.1).1 x.2, x.3))
entry_alike (Complement r) A B s b t = (λ n x. n ((s r b t).1 x), λ n x. n ((s r b t).0 x))
entry_alike None A B s b t = (λ x. x, λ x. x)

rule_at : (es : List Entry) (m : Meaning) (k : ℕ) → get_or (map (λ e. entry_reply e m.reply) es) k nothing ≡ entry_reply (get_or es k None) m.reply
rule_at [] m k = refl
rule_at (e ∷ es) m zero = refl
rule_at (e ∷ es) m (suc k) = rule_at es m k

pub reply_at : (es : List Entry) (m : Meaning) (k : ℕ) → k < 64 → (folder es m).reply k ≡ entry_reply (get_or es k None) m.reply
reply_at es m k h =
    ap (λ b. cond b (get_or (map (λ e. entry_reply e m.reply) es) k nothing) nothing) (lt-ltb k 64 h) ∙ rule_at es m k

reply_past : (es : List Entry) (m : Meaning) (k : ℕ) → 64 ≤ k → (folder es m).reply k ≡ nothing
reply_past es m k h =
    ap (λ b. cond b (get_or (map (λ e. entry_reply e m.reply) es) k nothing) nothing) (le-ltb k 64 h)

-- a draft's entries are few enough for the table to hold at any number
pub few_reply : (d : Draft) (m : Meaning) (k : ℕ) (a : Assignment) → (folder (drafted d) m).reply k a ≡ entry_reply (get_or (drafted d) k None) m.reply a
few_reply d m k a = go (cases_lt k 64)
  where
    go : (k < 64) ⊎ (64 ≤ k) → (folder (drafted d) m).reply k a ≡ entry_reply (get_or (drafted d) k None) m.reply a
    go (inl h) = ap (λ f. f a) (reply_at (drafted d) m k h)
    go (inr h) =
        ap (λ f. f a) (reply_past (drafted d) m k h)
        ∙ sym (ap (λ e. entry_reply e m.reply a)
        (get_or_past (drafted d) k None (omega (arith, d.entries.ok.0, d.few))))

pub folder_count : (es : List Entry) (m : Meaning) → (folder es m).count ≡ min 64 (length es)
folder_count es m = ap (min 64) (length-map es (λ e. entry_reply e m.reply))

pub folder_replies : FolderReplies
folder_replies m es =
    record {
      count = folder_count es m;
      each = λ k a h inside. ap (λ f. f a) (reply_at es m k h);
      past = λ k a h. gone k a h (cases_lt k 64);
    }
  where
    gone : (k : ℕ) (a : Assignment) → (folder es m).count ≤ k → (k < 64) ⊎ (64 ≤ k) → (folder es m).reply k a ≡ contradiction
    gone k a h (inl l) =
        ap (λ f. f a) (reply_at es m k l)
        ∙ ap (λ e. entry_reply e m.reply a) (get_or_past es k None (omega (arith, folder_count es m)))
    gone k a h (inr l) = ap (λ f. f a) (reply_past es m k l)

folder_builds : (es : List Entry) → length es ≤ 32 → (m : Meaning) → Lawful m → (A : Allowed) → Alike (Allows m) A → Alike (Allows (folder es m)) (folder_allows es A)
folder_builds es few m l A s k b t = go (cases_lt k 64)
  where
    go : (k < 64) ⊎ (64 ≤ k) → Allows (folder es m) k b ↔ folder_allows es A k b
    go (inl h) =
        let e = ap (λ f. f b) (reply_at es m k h) in
        let here = entry_builds (get_or es k None) m.reply (lawful_rule l) b t in
        let alike = entry_alike (get_or es k None) (Allows m) A s b t in
        (λ x. alike.0 (here.0 (sym e ∙ x)), λ x. e ∙ here.1 (alike.1 x))
    go (inr h) =
        let gone : (folder es m).reply k b ≡ contradiction = ap (λ f. f b) (reply_past es m k h) in
        let none : get_or es k None ≡ None = get_or_past es k None (omega arith) in
        (λ x. absurd (not_dead b t (sym gone ∙ x)), λ x. absurd (subst (λ e. entry_allows e A b) none x))

pub stack_builds : (fs : List (List Entry)) → Small fs → (m : Meaning) → Lawful m → (A : Allowed) → Alike (Allows m) A → Alike (Allows (stack fs m)) (stack_allows fs A)
unfolding stack stack_allows
stack_builds [] small m l A s = s
stack_builds (es ∷ fs) small m l A s =
    stack_builds fs small.1 (folder es m) (folder_lawful es m l) (folder_allows es A) (folder_builds es small.0 m l A s)

pub stack_lawful : StackLawful
unfolding stack
stack_lawful m l [] = l
stack_lawful m l (es ∷ fs) = stack_lawful (folder es m) (folder_lawful es m l) fs

pub stack_allows_builds : StackAllows
stack_allows_builds m l fs small k b t = stack_builds fs small m l (Allows m) (λ k d t. (λ x. x, λ x. x)) k b t

-- one folder more, on top
pub stack_more : (fs : List (List Entry)) (es : List Entry) (m : Meaning) → stack (fs ++ es ∷ []) m ≡ folder es (stack fs m)
unfolding stack
stack_more [] es m = refl
stack_more (f ∷ fs) es m = stack_more fs es (folder f m)
