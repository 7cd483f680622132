-- One call more of a list, and its reply behind the others.
use Rattle.std.proofs.Common.{◌≡◌, ℕ, zero, suc, ◌+◌, ◌<◌, ◌≤◌, List, [], ◌∷◌, ◌++◌, length, take, drop, get_or, set, refl, sym, ap, ap₂, ◌∙◌, arith}
use Rattle.std.proofs.Math.Seq.{drop-cons, set-append_seam}
use Rattle.std.proofs.lemmas.List.{append_assoc, length-append, length-take-le}
use Rattle.calls.specs.declared.call.Call.{Call}
use Rattle.calls.specs.declared.reply.Reply.{Reply}
use Rattle.enquiry.specs.Fitting.{Opening}
use Rattle.enquiry.specs.RunLaw.{called, replied_over, replies_in, Sent, sent_on}
use Rattle.enquiry.specs.States.{State, step}

take_more : {X : Type 0} (xs : List X) (i : ℕ) (d : X) → i < length xs → take (suc i) xs ≡ take i xs ++ (get_or xs i d ∷ [])
take_more [] i d h = absurd (omega (arith, h))
take_more (x ∷ xs) zero d h = refl
take_more (x ∷ xs) (suc i) d h = ap (λ ys. x ∷ ys) (take_more xs i d (omega (arith, h)))

sent_more : (o : Opening) (sent : Sent) (calls : List Call) (call : Call) → sent_on o sent (calls ++ (call ∷ [])) ≡ called o (sent_on o sent calls) call
sent_more o sent [] call = refl
sent_more o sent (c ∷ calls) call = sent_more o (called o sent c) calls call

replies_count : (o : Opening) (sent : Sent) (calls : List Call) → length (replies_in (sent_on o sent calls).history) ≡ length (replies_in sent.history) + length calls
replies_count o sent [] = omega arith
replies_count o sent (c ∷ calls) =
    let rest = replies_count o (called o sent c) calls in
    let one = length-append (replies_in sent.history) ((step o sent.state c).reply ∷ []) in
    omega (arith, rest, one)

reply_more : (rs before : List Reply) (r : Reply) → length rs < length before → set (rs ++ drop (length rs) before) (length rs) r ≡ (rs ++ (r ∷ [])) ++ drop (suc (length rs)) before
reply_more rs before r h =
    ap (λ ys. set (rs ++ ys) (length rs) r) (drop-cons before (length rs) r h)
    ∙ set-append_seam rs (get_or before (length rs) r) (drop (suc (length rs)) before) r
    ∙ sym (append_assoc rs (r ∷ []) (drop (suc (length rs)) before))

module _ (o : Opening) (s : State) (calls : List Call) (before : List Reply) where
  abbrev pub sent_first : ℕ → Sent
  sent_first i = sent_on o (record { history = []; state = s }) (take i calls)

  next_sent : (i : ℕ) (call d : Call) → i < length calls → call ≡ get_or calls i d → sent_first (suc i) ≡ called o (sent_first i) call
  next_sent i call d h e =
      ap (sent_on o (record { history = []; state = s })) (take_more calls i d h ∙ ap (λ c. take i calls ++ (c ∷ [])) (sym e))
      ∙ sent_more o (record { history = []; state = s }) (take i calls) call

  count_first : (i : ℕ) → i ≤ length calls → length (replies_in (sent_first i).history) ≡ i
  count_first i h =
      let count = replies_count o (record { history = []; state = s }) (take i calls) in
      let taken = length-take-le i calls h in
      omega (arith, count, taken)

  next_sent_at : (i : ℕ) (call d : Call) → i < length calls → call ≡ get_or calls i d → sent_first (i + 1) ≡ called o (sent_first i) call
  next_sent_at i call d h e =
      let up : i + 1 ≡ suc i = omega arith in
      ap sent_first up ∙ next_sent i call d h e

  pub next_state : (i : ℕ) (call d : Call) (t : State) → i < length calls → call ≡ get_or calls i d → t ≡ (step o (sent_first i).state call).state → t ≡ (sent_first (i + 1)).state
  next_state i call d t h e u = u ∙ sym (ap (λ x. x.state) (next_sent_at i call d h e))

  pub next_reply : (i : ℕ) (call d : Call) (r : Reply) → i < length calls → i < length before → call ≡ get_or calls i d → r ≡ (step o (sent_first i).state call).reply → set (replied_over (sent_first i).history before) i r ≡ replied_over (sent_first (i + 1)).history before
  next_reply i call d r h k e u =
      let rs = replies_in (sent_first i).history in
      let at : length rs ≡ i = count_first i (omega (arith, h)) in
      let reply = (step o (sent_first i).state call).reply in
      let more = length-append rs (reply ∷ []) in
      let longer : suc (length rs) ≡ length (rs ++ (reply ∷ [])) = omega (arith, more) in
      ap (λ n. set (rs ++ drop (length rs) before) n r) (sym at)
      ∙ reply_more rs before r (omega (arith, at, k))
      ∙ ap₂ (λ x n. (rs ++ (x ∷ [])) ++ drop n before) u longer
      ∙ sym (ap (λ x. replied_over x.history before) (next_sent_at i call d h e))
