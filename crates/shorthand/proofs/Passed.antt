-- A text that is read up to some place.
use Rattle.std.proofs.Common.{◌≡◌, ℕ, ◌+◌, ◌≤◌, List, [], ◌∷◌, ◌++◌, length, None, Some, refl, sym, ap, subst, ◌∙◌, arith, ◌⊎◌, inl, inr, append_assoc, append-nil}
use Rattle.std.specs.Prelude.{Ok, Err, encode_utf8, encode_utf8_all}
use Rattle.std.specs.Str.{chars}
use Rattle.std.proofs.lemmas.List.{length-append}
use Rattle.std.proofs.lemmas.Str.{encodes-append}
use Rattle.shorthand.specs.declared.fault.Stop.{Stop}
use Rattle.shorthand.specs.declared.fault.Stop.TheVariants.{Refused, RepeatedKey, OutOfMemory}
use Rattle.shorthand.specs.declared.fault.ShortFault.{ShortFault}
use Rattle.shorthand.specs.declared.fault.ShortFault.TheVariants as fault
use Rattle.shorthand.specs.declared.places.Reader.{Reader}
use Rattle.shorthand.specs.declared.short.Short.{Short}
use Rattle.shorthand.specs.Faults.{HasFault}
use Rattle.shorthand.specs.Grammar.{IsShorthand}
use Rattle.shorthand.specs.Reading.{Stops, step, finished, key_length, IsPlaced}
use Rattle.shorthand.proofs.Outcomes.{one_tree, one_fault}
use Rattle.shorthand.proofs.Reached.{IsReached, BlamesAt, begins, beginning, reaches, stops_at, found_at, missed_at}

pub record IsPassed (text bytes : List ℕ) (r : Reader) (at : ℕ) : Type 0 where
  pub front : List ℕ
  pub whole : text ≡ front ++ chars bytes
  pub reached : IsReached front r.outer r.place
  pub met : at ≡ length (encode_utf8_all front)

-- What is answered of a text.

pub only_tree : (text : List ℕ) (t : Short) → IsShorthand text t → (s : Short) → IsShorthand text s → t ≡ s
only_tree text t a s b = one_tree text t s a b

-- a fault that is answered, or want of memory
abbrev pub IsAnswer : List ℕ → ShortFault → Type 0
IsAnswer text (fault.At n) = HasFault text n
IsAnswer text fault.OutOfMemory = Unit {0}

abbrev pub Refusal : List ℕ → ShortFault → Type 0
Refusal text f = (f ≡ fault.OutOfMemory) ⊎ ((at : ℕ) × (f ≡ fault.At at) × HasFault text at)

pub refusal_of : (text : List ℕ) (f : ShortFault) → IsAnswer text f → Refusal text f
refusal_of text (fault.At n) h = inr (n, refl, h)
refusal_of text fault.OutOfMemory h = inl refl

pub no_tree_of : (text : List ℕ) (f : ShortFault) → IsAnswer text f → (t : Short) → IsShorthand text t → f ≡ fault.OutOfMemory
no_tree_of text (fault.At n) h t tree = absurd (h.no_tree t tree)
no_tree_of text fault.OutOfMemory h t tree = refl

pub same_fault : (text : List ℕ) (f : ShortFault) → IsAnswer text f → (at : ℕ) → HasFault text at → (f ≡ fault.At at) ⊎ (f ≡ fault.OutOfMemory)
same_fault text (fault.At n) h at has = inl (ap fault.At (one_fault text n at h has))
same_fault text fault.OutOfMemory h at has = inr refl

-- the fault that is met at the next character
placed : (text : List ℕ) (f : List ℕ) (c : ℕ) (ts : List ℕ) (at : ℕ) (s : Stop) (answer : ShortFault) → text ≡ f ++ c ∷ ts → at ≡ length (encode_utf8_all f) → BlamesAt f c ts s → IsPlaced at s answer → IsAnswer text answer
placed text f c ts at Refused answer is met blame place = subst (IsAnswer text) (sym place) (subst (λ x. HasFault x at) (sym is) (subst (λ n. HasFault (f ++ c ∷ ts) n) (sym met) blame))
placed text f c ts at (RepeatedKey n) answer is met blame place =
    let start : place.0 ≡ blame.0 = omega (arith, place.2, blame.1, met) in
    subst (IsAnswer text) (sym place.1) (subst (λ x. HasFault x place.0) (sym is) (subst (λ m. HasFault (f ++ c ∷ ts) m) (sym start) blame.2))
placed text f c ts at OutOfMemory answer is met blame place = absurd blame

pub stop_answer : (text rest : List ℕ) (r : Reader) (c : ℕ) (ts : List ℕ) (at : ℕ) (s : Stop) (answer : ShortFault) → IsPassed text rest r at → chars rest ≡ c ∷ ts
    → Stops (λ s. step r c ≡ Err s) s → IsPlaced at s answer → IsAnswer text answer
stop_answer text rest r c ts at Refused answer h next e place = placed text h.front c ts at Refused answer (h.whole ∙ ap (λ x. h.front ++ x) next) h.met (stops_at h.front r.outer r.place c ts Refused h.reached e) place
stop_answer text rest r c ts at (RepeatedKey n) answer h next e place =
    placed text h.front c ts at (RepeatedKey n) answer (h.whole ∙ ap (λ x. h.front ++ x) next) h.met (stops_at h.front r.outer r.place c ts (RepeatedKey n) h.reached e) place
stop_answer text rest r c ts at OutOfMemory answer h next e place = subst (IsAnswer text) (sym place) tt

-- a key that stood before is no longer than what is read
pub stop_fits : (text rest : List ℕ) (r : Reader) (c : ℕ) (ts : List ℕ) (at : ℕ) (s : Stop) → IsPassed text rest r at → chars rest ≡ c ∷ ts → Stops (λ s. step r c ≡ Err s) s → key_length s ≤ at
stop_fits text rest r c ts at Refused h next e = omega arith
stop_fits text rest r c ts at (RepeatedKey n) h next e =
    let blame = stops_at h.front r.outer r.place c ts (RepeatedKey n) h.reached e in omega (arith, blame.1, h.met)
stop_fits text rest r c ts at OutOfMemory h next e = omega arith

pub passes : (text rest more : List ℕ) (r next : Reader) (c at : ℕ) → IsPassed text rest r at → chars rest ≡ c ∷ chars more → step r c ≡ Ok next → IsPassed text more next (at + length (encode_utf8 c))
passes text rest more r next c at h is e = record {
  front = h.front ++ c ∷ [];
  whole = h.whole ∙ ap (λ x. h.front ++ x) is ∙ sym (append_assoc h.front (c ∷ []) (chars more));
  reached = reaches h.front r.outer r.place c next h.reached e;
  met = ap (λ n. n + length (encode_utf8 c)) h.met ∙ sym (one_more h.front c);
}
  where
    one_more : (f : List ℕ) (c : ℕ) → length (encode_utf8_all (f ++ c ∷ [])) ≡ length (encode_utf8_all f) + length (encode_utf8 c)
    one_more f c = ap length (encodes-append f (c ∷ [])) ∙ length-append (encode_utf8_all f) (encode_utf8_all (c ∷ [])) ∙ ap (λ x. length (encode_utf8_all f) + length x) (append-nil (encode_utf8 c))

pub starts : (text bytes : List ℕ) → text ≡ chars bytes → IsPassed text bytes (record { outer = []; place = beginning }) 0
starts text bytes e = record { front = []; whole = e; reached = begins; met = refl }

-- at the end
pub found : (text : List ℕ) (r : Reader) (at : ℕ) (t : Short) → IsPassed text [] r at → chars [] ≡ [] → finished r ≡ Some t → IsShorthand text t
found text r at t h none e = subst (λ x. IsShorthand x t) (sym (h.whole ∙ ap (λ x. h.front ++ x) none ∙ append-nil h.front)) (found_at h.front r.outer r.place t h.reached e)

pub missed : (text : List ℕ) (r : Reader) (at : ℕ) (s : Stop) (answer : ShortFault) → IsPassed text [] r at → chars [] ≡ [] → Stops (λ s. (s ≡ Refused) × (finished r ≡ None)) s → IsPlaced at s answer → IsAnswer text answer
missed text r at Refused answer h none e place =
    subst (IsAnswer text) (sym place) (subst (λ x. HasFault x at) (sym (h.whole ∙ ap (λ x. h.front ++ x) none ∙ append-nil h.front)) (subst (λ n. HasFault h.front n) (sym h.met) (missed_at h.front r.outer r.place h.reached e.1)))
missed text r at (RepeatedKey n) answer h none e place = absurd (other e.0)
  where
    other : RepeatedKey n ≡ Refused → ⊥
    other e = cc
missed text r at OutOfMemory answer h none e place = subst (IsAnswer text) (sym place) tt
