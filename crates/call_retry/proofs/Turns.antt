-- A call that was followed so far, and its next attempt.
use Rattle.std.proofs.Common.{◌≡◌, ◌⊎◌, ℕ, ◌+◌, ◌-◌, List, [], ◌∷◌, ◌++◌, Option, None, Some, Result, Ok, Err, refl, sym, subst, append_assoc, inl, inr}
use Rattle.aws_world.specs.declared.message.Message.{Message}
use Rattle.serializer.specs.Faults.{is_memory}
use Rattle.serializer.specs.declared.encode_fault.EncodeFault.{EncodeFault}
use Rattle.serializer.specs.declared.encode_fault.EncodeFault.TheVariants as encode
use Rattle.texts.specs.Calls.{Unless}
use Rattle.call_retry.specs.Attempts.{Order, Attempt, IsAttempt, told_after}
use Rattle.call_retry.specs.Calls.{GoesOn, EndsWith, CallsFrom, CallOf, quota_after}
use Rattle.call_retry.specs.Classes.{class_at}
use Rattle.call_retry.specs.Inside.{unencoded_as}
use Rattle.call_retry.specs.Retries.{decide}
use Rattle.call_retry.specs.declared.call_end.CallEnd.{CallEnd}
use Rattle.call_retry.specs.declared.call_end.CallEnd.TheVariants as end
use Rattle.call_retry.specs.declared.retry.Decision.{Decision}
use Rattle.call_retry.specs.declared.retry.Decision.TheVariants as decision

-- an attempt with the word that was drawn after it
abbrev pub with_word : Attempt → Option ℕ → Attempt
with_word a word = record a { word = word }

-- whatever follows these attempts, with them it is a call
abbrev pub Leads : Order → Message → ℕ → List Attempt → ℕ → ℕ → ℕ → Type 0
Leads order message quota made number left back =
    (rest : List Attempt) (how : CallEnd) (now : ℕ) → CallsFrom order message number left back rest how now
    → CallsFrom order message 1 quota 1 (made ++ rest) how now

pub goes_weaker : (d : Decision) (word : Option ℕ) (E F G H : Type 0) (M N : ℕ → Type 0) → GoesOn d word E F M → (E → G) → (F → H)
    → ((cost : ℕ) → M cost → N cost) → GoesOn d word G H N
goes_weaker decision.End None E F G H M N goes ends fails again = ends goes
goes_weaker decision.End (Some w) E F G H M N goes ends fails again = goes
goes_weaker (decision.Again cost) None E F G H M N goes ends fails again = fails goes
goes_weaker (decision.Again cost) (Some w) E F G H M N goes ends fails again = again cost goes

module _ (order : Order) (message : Message) (quota : ℕ) (made : List Attempt) (number left back : ℕ) (a : Attempt) (came : CallEnd) (word : Option ℕ) (now : ℕ) where
  abbrev Goes : Type 0 → Type 0 → (ℕ → Type 0) → Type 0
  Goes = GoesOn (decide (class_at came) number order.limit left) word

  -- a retry follows
  pub leads_more : (cost : ℕ) → Leads order message quota made number left back → IsAttempt order message a came
      → Goes ⊥ ⊥ (λ c. (cost ≡ c) × (now ≡ left - c)) → Leads order message quota (made ++ with_word a word ∷ []) (number + 1) now cost
  leads_more cost leads tried goes = λ rest how later follows.
      let EndsNow : Type 0 = EndsWith (told_after order.limit number came) (quota_after left back came) rest how later in
      let Fails : Type 0 = EndsWith end.DiceFault left rest how later in
      let Again : ℕ → Type 0 = λ c. CallsFrom order message (number + 1) (left - c) c rest how later in
      let P : ℕ → ℕ → Type 0 = λ q b. CallsFrom order message (number + 1) q b rest how later in
      subst (λ all. CallsFrom order message 1 quota 1 all how later) (sym (append_assoc made (with_word a word ∷ []) rest))
      (leads (with_word a word ∷ rest) how later (
        came,
        tried,
        goes_weaker (decide (class_at came) number order.limit left) word ⊥ ⊥ EndsNow Fails (λ c. (cost ≡ c) × (now ≡ left - c)) Again goes absurd absurd
            (λ c e. subst (λ b. P (left - c) b) e.0 (subst (λ q. P q cost) e.1 follows)),
      ))

  -- the call ends
  pub leads_end : (how : CallEnd) → Leads order message quota made number left back → IsAttempt order message a came
      → Goes ((how ≡ told_after order.limit number came) × (now ≡ quota_after left back came)) ((how ≡ end.DiceFault) × (now ≡ left)) (λ c. ⊥)
      → CallsFrom order message 1 quota 1 (made ++ with_word a word ∷ []) how now
  leads_end how leads tried goes =
      let EndsNow : Type 0 = EndsWith (told_after order.limit number came) (quota_after left back came) [] how now in
      let Fails : Type 0 = EndsWith end.DiceFault left [] how now in
      let Again : ℕ → Type 0 = λ c. CallsFrom order message (number + 1) (left - c) c [] how now in
      leads (with_word a word ∷ []) how now (
        came,
        tried,
        goes_weaker (decide (class_at came) number order.limit left) word ((how ≡ told_after order.limit number came) × (now ≡ quota_after left back came))
            ((how ≡ end.DiceFault) × (now ≡ left)) EndsNow Fails (λ c. ⊥) Again goes (λ e. (refl, e.0, e.1)) (λ e. (refl, e.0, e.1)) (λ c. absurd),
      )

-- a value without a message, or without memory for it
pub unsent_call : (order : Order) (quota : ℕ) (fault : EncodeFault) (due : Result Message EncodeFault) → Unless (is_memory fault) (due ≡ Err fault)
    → CallOf order quota [] (unencoded_as fault) quota due
unsent_call order quota encode.OutOfMemory (Ok message) e = inr (refl, refl, refl)
unsent_call order quota encode.OutOfMemory (Err fault) e = inr (refl, refl, refl)
unsent_call order quota (encode.EmptyLabel name) due e = subst (CallOf order quota [] (end.Encode (encode.EmptyLabel name)) quota) (sym e) (inl (refl, refl, refl))
unsent_call order quota (encode.BadHostLabel name) due e = subst (CallOf order quota [] (end.Encode (encode.BadHostLabel name)) quota) (sym e) (inl (refl, refl, refl))
unsent_call order quota (encode.TimeOutOfRange name) due e = subst (CallOf order quota [] (end.Encode (encode.TimeOutOfRange name)) quota) (sym e) (inl (refl, refl, refl))
unsent_call order quota (encode.BadHeaderText name) due e = subst (CallOf order quota [] (end.Encode (encode.BadHeaderText name)) quota) (sym e) (inl (refl, refl, refl))
