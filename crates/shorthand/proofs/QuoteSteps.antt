-- Values in quotes.
use Rattle.std.proofs.Common.{◌≡◌, ℕ, ◌==◌, Bool, true, false, ◌||◌, if◌then◌else◌, List, [], ◌∷◌, ◌++◌, refl, sym, ap, subst, ◌∙◌}
use Rattle.std.specs.Prelude.{◌↔◌}
use Rattle.std.proofs.lemmas.Bool.{eqb-true, eqb-false, eq-eqb, or_left, or_right}
use Rattle.shorthand.specs.declared.begun.Group.{Group}
use Rattle.shorthand.specs.declared.places.Place.TheVariants as place
use Rattle.shorthand.specs.declared.short.Short.{Short}
use Rattle.shorthand.specs.declared.short.Short.TheVariants.{Word}
use Rattle.shorthand.specs.Grammar.{Quoted}
use Rattle.shorthand.specs.Reading.{with_value, at, escaped, in_quotes}
use Rattle.shorthand.proofs.Characters.{either, head_is, tail_is, untrue}
use Rattle.shorthand.proofs.Goes.{Behind, QuotedGoes, StepOf}
use Rattle.shorthand.proofs.GroupSteps.{no_change}
use Rattle.shorthand.proofs.StartSteps.{word_nil, word_more}

abbrev pub escapes : ℕ → ℕ → Bool
escapes q c = (c == q) || (c == 92)

no_escape : (q c : ℕ) → escapes q c ≡ false → c ≡ q → ⊥
no_escape q c fails is = untrue fails (or_left _ _ (eq-eqb c q is))

no_backslash : (q c : ℕ) → escapes q c ≡ false → c ≡ 92 → ⊥
no_backslash q c fails is = untrue fails (or_right _ _ (eq-eqb c 92 is))

end_goes : (os : List Group) (o : Group) (q : ℕ) (w : List ℕ) (t : Short) (c : ℕ) (ts : List ℕ) {all v rest : List ℕ} → Quoted q all v rest → all ≡ c ∷ ts → c ≡ q → (q ≡ 92 → ⊥)
    → Behind os (with_value o (Word (w ++ v))) t rest → Behind os (with_value o (Word w)) t ts
end_goes os o q w t c ts (Quoted.quote_end {rest = rest} e) is end quote h = subst (λ r. Behind os (with_value o (Word w)) t r) (tail_is (sym e ∙ is)) ((word_nil os o w t rest).0 h)
end_goes os o q w t c ts (Quoted.quote_escape e escape b) is end quote h = absurd (quote (sym (head_is (sym e ∙ is) ∙ end)))
end_goes os o q w t c ts (Quoted.quote_backslash e other b) is end quote h = absurd (quote (sym (head_is (sym e ∙ is) ∙ end)))
end_goes os o q w t c ts (Quoted.quote_char e other plain b) is end quote h = absurd (eqb-false _ q other (head_is (sym e ∙ is) ∙ end))

char_goes : (os : List Group) (o : Group) (q : ℕ) (w : List ℕ) (t : Short) (c : ℕ) (ts : List ℕ) {all v rest : List ℕ} → Quoted q all v rest → all ≡ c ∷ ts → (c ≡ q → ⊥) → (c ≡ 92 → ⊥)
    → Behind os (with_value o (Word (w ++ v))) t rest → QuotedGoes os o q (w ++ c ∷ []) t ts
char_goes os o q w t c ts (Quoted.quote_end e) is end plain h = absurd (end (sym (head_is (sym e ∙ is))))
char_goes os o q w t c ts (Quoted.quote_escape e escape b) is end plain h = absurd (plain (sym (head_is (sym e ∙ is))))
char_goes os o q w t c ts (Quoted.quote_backslash e other b) is end plain h = absurd (plain (sym (head_is (sym e ∙ is))))
char_goes os o q w t c ts (Quoted.quote_char {w = v} {rest = rest} e other plain_char b) is end plain h = (
  v,
  rest,
  subst (λ us. Quoted q us v rest) (tail_is (sym e ∙ is)) b,
  (word_more os o w (c ∷ []) v t rest).1 (subst (λ d. Behind os (with_value o (Word (w ++ d ∷ v))) t rest) (head_is (sym e ∙ is)) h),
)

escape_goes : (os : List Group) (o : Group) (q : ℕ) (w : List ℕ) (t : Short) (c : ℕ) (ts : List ℕ) {all v rest : List ℕ} → Quoted q all v rest → all ≡ 92 ∷ c ∷ ts → escapes q c ≡ true → (q ≡ 92 → ⊥)
    → Behind os (with_value o (Word (w ++ v))) t rest → QuotedGoes os o q (w ++ c ∷ []) t ts
escape_goes os o q w t c ts (Quoted.quote_end e) is holds quote h = absurd (quote (head_is (sym e ∙ is)))
escape_goes os o q w t c ts (Quoted.quote_escape {w = v} {rest = rest} e escape b) is holds quote h = (
  v,
  rest,
  subst (λ us. Quoted q us v rest) (tail_is (tail_is (sym e ∙ is))) b,
  (word_more os o w (c ∷ []) v t rest).1 (subst (λ d. Behind os (with_value o (Word (w ++ d ∷ v))) t rest) (head_is (tail_is (sym e ∙ is))) h),
)
escape_goes os o q w t c ts (Quoted.quote_backslash e other b) is holds quote h =
    absurd (untrue (subst (λ d. escapes q d ≡ false) (head_is (tail_is (sym e ∙ is))) other) holds)
escape_goes os o q w t c ts (Quoted.quote_char e other plain b) is holds quote h = absurd (eqb-false _ 92 plain (head_is (sym e ∙ is)))

both_goes : (os : List Group) (o : Group) (q : ℕ) (w : List ℕ) (t : Short) (c : ℕ) (ts : List ℕ) {all v rest : List ℕ} → Quoted q all v rest → all ≡ 92 ∷ c ∷ ts → escapes q c ≡ false → (q ≡ 92 → ⊥)
    → Behind os (with_value o (Word (w ++ v))) t rest → QuotedGoes os o q (w ++ 92 ∷ c ∷ []) t ts
both_goes os o q w t c ts (Quoted.quote_end e) is fails quote h = absurd (quote (head_is (sym e ∙ is)))
both_goes os o q w t c ts (Quoted.quote_escape e escape b) is fails quote h =
    absurd (untrue fails (subst (λ d. escapes q d ≡ true) (head_is (tail_is (sym e ∙ is))) escape))
both_goes os o q w t c ts (Quoted.quote_backslash {w = v} {rest = rest} e other b) is fails quote h = (
  v,
  rest,
  subst (λ us. Quoted q us v rest) (tail_is (tail_is (sym e ∙ is))) b,
  (word_more os o w (92 ∷ c ∷ []) v t rest).1 (subst (λ d. Behind os (with_value o (Word (w ++ 92 ∷ d ∷ v))) t rest) (head_is (tail_is (sym e ∙ is))) h),
)
both_goes os o q w t c ts (Quoted.quote_char e other plain b) is fails quote h = absurd (eqb-false _ 92 plain (head_is (sym e ∙ is)))

pub escaped_step : (os : List Group) (o : Group) (q : ℕ) (w : List ℕ) (c : ℕ) → (q ≡ 92 → ⊥) → StepOf (λ t ts. QuotedGoes os o q w t (92 ∷ c ∷ ts)) (escaped os o q w c)
escaped_step os o q w c quote =
    let G : Short → List ℕ → Type 0 = λ t ts. QuotedGoes os o q w t (92 ∷ c ∷ ts) in
    either (λ x. StepOf G (at os (place.Quoted o q x false))) (escapes q c) (w ++ c ∷ []) (w ++ 92 ∷ c ∷ [])
    (λ holds t ts. (
      (λ h. (c ∷ h.0, h.1, Quoted.quote_escape refl holds h.2, (word_more os o w (c ∷ []) h.0 t h.1).0 h.3)),
      (λ h. escape_goes os o q w t c ts h.2 refl holds quote h.3),
    ))
    (λ fails t ts. (
      (λ h. (92 ∷ c ∷ h.0, h.1, Quoted.quote_backslash refl fails h.2, (word_more os o w (92 ∷ c ∷ []) h.0 t h.1).0 h.3)),
      (λ h. both_goes os o q w t c ts h.2 refl fails quote h.3),
    ))

pub quoted_step : (os : List Group) (o : Group) (q : ℕ) (w : List ℕ) (c : ℕ) → (q ≡ 92 → ⊥) → StepOf (λ t ts. QuotedGoes os o q w t (c ∷ ts)) (in_quotes os o q w false c)
quoted_step os o q w c quote =
    let G : Short → List ℕ → Type 0 = λ t ts. QuotedGoes os o q w t (c ∷ ts) in
    either (StepOf G) (c == q) (at os (place.Behind (with_value o (Word w)))) (if c == 92 then at os (place.Quoted o q w true) else at os (place.Quoted o q (w ++ c ∷ []) false))
    (λ holds t ts. let end = eqb-true c q holds in (
      (λ h. ([], ts, Quoted.quote_end (ap (λ d. d ∷ ts) end), (word_nil os o w t ts).1 h)),
      (λ h. end_goes os o q w t c ts h.2 refl end quote h.3),
    ))
    (λ fails. either (StepOf G) (c == 92) (at os (place.Quoted o q w true)) (at os (place.Quoted o q (w ++ c ∷ []) false))
    (λ e t ts. subst (λ x. QuotedGoes os o q w t (92 ∷ ts) ↔ QuotedGoes os o q w t (x ∷ ts)) (sym (eqb-true c 92 e)) (no_change (λ t ts. QuotedGoes os o q w t (92 ∷ ts)) t ts))
    (λ plain t ts. (
      (λ h. (c ∷ h.0, h.1, Quoted.quote_char refl fails plain h.2, (word_more os o w (c ∷ []) h.0 t h.1).0 h.3)),
      (λ h. char_goes os o q w t c ts h.2 refl (eqb-false c q fails) (eqb-false c 92 plain) h.3),
    )))
