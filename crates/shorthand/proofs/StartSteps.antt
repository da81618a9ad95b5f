-- Values: their first character, and what goes on with one.
use Rattle.std.proofs.Common.{◌≡◌, ℕ, ◌==◌, true, false, List, [], ◌∷◌, ◌++◌, length, refl, sym, ap, subst, ◌∙◌, append_assoc, append-nil, ⊎_elim}
use Rattle.std.specs.Prelude.{◌↔◌}
use Rattle.std.proofs.lemmas.Bool.{eqb-true, eqb-false}
use Rattle.shorthand.specs.declared.begun.Group.{Group}
use Rattle.shorthand.specs.declared.places.Place.TheVariants as place
use Rattle.shorthand.specs.declared.places.Run.TheVariants as run
use Rattle.shorthand.specs.declared.short.Short.{Short}
use Rattle.shorthand.specs.declared.short.Short.TheVariants.{Word}
use Rattle.shorthand.specs.Grammar.{ends_bare, begins_with, EndsBare, Bare}
use Rattle.shorthand.specs.Reading.{with_value, at, plain, behind_backslash, bare, behind}
use Rattle.shorthand.proofs.Characters.{either, head_is, tail_is, untrue, ends_is}
use Rattle.shorthand.proofs.Goes.{Behind, BareGoes, StepOf}
use Rattle.shorthand.proofs.GroupSteps.{same_step, no_change}

-- Values without quotes.

pub word_nil : (os : List Group) (o : Group) (w : List ℕ) (t : Short) (ts : List ℕ) → Behind os (with_value o (Word (w ++ []))) t ts ↔ Behind os (with_value o (Word w)) t ts
word_nil os o w t ts = subst (λ v. Behind os (with_value o (Word (w ++ []))) t ts ↔ Behind os (with_value o (Word v)) t ts) (append-nil w) (no_change (λ t ts. Behind os (with_value o (Word (w ++ []))) t ts) t ts)

pub word_more : (os : List Group) (o : Group) (w v x : List ℕ) (t : Short) (ts : List ℕ) → Behind os (with_value o (Word ((w ++ v) ++ x))) t ts ↔ Behind os (with_value o (Word (w ++ (v ++ x)))) t ts
word_more os o w v x t ts = subst (λ y. Behind os (with_value o (Word ((w ++ v) ++ x))) t ts ↔ Behind os (with_value o (Word y)) t ts) (append_assoc w v x) (no_change (λ t ts. Behind os (with_value o (Word ((w ++ v) ++ x))) t ts) t ts)

pub ends_backslash : (n c : ℕ) → c ≡ 92 → ends_bare n c ≡ true → ⊥
ends_backslash n c is e =
    ⊎_elim (λ (h : c ≡ 44). absurd (eqb-false 92 44 refl (sym is ∙ h)))
    (λ more. ⊎_elim (λ (h : c ≡ 93). absurd (eqb-false 92 93 refl (sym is ∙ h))) (λ (h : c ≡ 125). absurd (eqb-false 92 125 refl (sym is ∙ h))) more) (ends_is n c e)

-- what goes on with a value behind a character that is no comma, bracket or backslash
char_goes : (os : List Group) (o : Group) (w : List ℕ) (t : Short) (c : ℕ) (ts : List ℕ) {all v rest : List ℕ} → Bare (length os) all v rest → all ≡ c ∷ ts → (c == 92) ≡ false → ends_bare (length os) c ≡ false
    → Behind os (with_value o (Word (w ++ v))) t rest → BareGoes os o (w ++ c ∷ []) t ts
char_goes os o w t c ts (Bare.bare_end {ts = us} ends) is fails go_on h = absurd (untrue go_on (subst (EndsBare (length os)) is ends))
char_goes os o w t c ts (Bare.bare_comma e b) is fails go_on h = absurd (eqb-false c 92 fails (sym (head_is (sym e ∙ is))))
char_goes os o w t c ts (Bare.bare_backslash e other b) is fails go_on h = absurd (eqb-false c 92 fails (sym (head_is (sym e ∙ is))))
char_goes os o w t c ts (Bare.bare_char {w = v} {rest = rest} e plain ends b) is fails go_on h =
    let x = head_is (sym e ∙ is) in (
      v,
      rest,
      subst (λ us. Bare (length os) us v rest) (tail_is (sym e ∙ is)) b,
      (word_more os o w (c ∷ []) v t rest).1 (subst (λ d. Behind os (with_value o (Word (w ++ d ∷ v))) t rest) x h),
    )

pub plain_step : (os : List Group) (o : Group) (w : List ℕ) (c : ℕ) → ends_bare (length os) c ≡ false → StepOf (λ t ts. BareGoes os o w t (c ∷ ts)) (plain os o w c)
plain_step os o w c go_on =
    let G : Short → List ℕ → Type 0 = λ t ts. BareGoes os o w t (c ∷ ts) in
    either (StepOf G) (c == 92) (at os (place.Bare o w run.Backslash)) (at os (place.Bare o (w ++ c ∷ []) run.Plain))
    (λ e t ts. subst (λ x. BareGoes os o w t (92 ∷ ts) ↔ BareGoes os o w t (x ∷ ts)) (sym (eqb-true c 92 e)) (no_change (λ t ts. BareGoes os o w t (92 ∷ ts)) t ts))
    (λ fails t ts. (
      (λ h. (c ∷ h.0, h.1, Bare.bare_char refl fails go_on h.2, (word_more os o w (c ∷ []) h.0 t h.1).0 h.3)),
      (λ h. char_goes os o w t c ts h.2 refl fails go_on h.3),
    ))

-- the end of a value without quotes
end_goes : (os : List Group) (o : Group) (w : List ℕ) (t : Short) (c : ℕ) (ts : List ℕ) {all v rest : List ℕ} → Bare (length os) all v rest → all ≡ c ∷ ts → ends_bare (length os) c ≡ true
    → Behind os (with_value o (Word (w ++ v))) t rest → Behind os (with_value o (Word w)) t (c ∷ ts)
end_goes os o w t c ts (Bare.bare_end ends) is end h = subst (λ r. Behind os (with_value o (Word w)) t r) is ((word_nil os o w t _).0 h)
end_goes os o w t c ts (Bare.bare_comma e b) is end h = absurd (ends_backslash (length os) c (sym (head_is (sym e ∙ is))) end)
end_goes os o w t c ts (Bare.bare_backslash e other b) is end h = absurd (ends_backslash (length os) c (sym (head_is (sym e ∙ is))) end)
end_goes os o w t c ts (Bare.bare_char e plain ends b) is end h =
    absurd (untrue (subst (λ x. ends_bare (length os) x ≡ false) (head_is (sym e ∙ is)) ends) end)

pub bare_ends : (os : List Group) (o : Group) (w : List ℕ) (c : ℕ) → ends_bare (length os) c ≡ true → (t : Short) (ts : List ℕ) → Behind os (with_value o (Word w)) t (c ∷ ts) ↔ BareGoes os o w t (c ∷ ts)
bare_ends os o w c end t ts = (
  (λ h. ([], c ∷ ts, Bare.bare_end end, (word_nil os o w t (c ∷ ts)).1 h)),
  (λ h. end_goes os o w t c ts h.2 refl end h.3),
)

pub bare_step : (os : List Group) (o : Group) (w : List ℕ) (c : ℕ) → StepOf (λ t ts. Behind os (with_value o (Word w)) t (c ∷ ts)) (behind os (with_value o (Word w)) c)
    → StepOf (λ t ts. BareGoes os o w t (c ∷ ts)) (bare os o w c)
bare_step os o w c after =
    let G : Short → List ℕ → Type 0 = λ t ts. BareGoes os o w t (c ∷ ts) in
    either (StepOf G) (ends_bare (length os) c) (behind os (with_value o (Word w)) c) (plain os o w c)
    (λ end. same_step (λ t ts. Behind os (with_value o (Word w)) t (c ∷ ts)) G (behind os (with_value o (Word w)) c) (bare_ends os o w c end) after)
    (λ go_on. plain_step os o w c go_on)

-- Behind a backslash.

comma_goes : (os : List Group) (o : Group) (w : List ℕ) (t : Short) (c : ℕ) (ts : List ℕ) {all v rest : List ℕ} → Bare (length os) all v rest → all ≡ 92 ∷ c ∷ ts → c ≡ 44
    → Behind os (with_value o (Word (w ++ v))) t rest → BareGoes os o (w ++ c ∷ []) t ts
comma_goes os o w t c ts (Bare.bare_end ends) is comma h = absurd (ends_backslash (length os) 92 refl (subst (EndsBare (length os)) is ends))
comma_goes os o w t c ts (Bare.bare_comma {w = v} {rest = rest} e b) is comma h = (
  v,
  rest,
  subst (λ us. Bare (length os) us v rest) (tail_is (tail_is (sym e ∙ is))) b,
  (word_more os o w (c ∷ []) v t rest).1 (subst (λ d. Behind os (with_value o (Word (w ++ d ∷ v))) t rest) (head_is (tail_is (sym e ∙ is))) h),
)
comma_goes os o w t c ts (Bare.bare_backslash {us = us} e other b) is comma h =
    absurd (untrue (subst (λ x. begins_with 44 x ≡ false) (tail_is (sym e ∙ is)) other) (ap (λ x. x == 44) comma))
comma_goes os o w t c ts (Bare.bare_char e plain ends b) is comma h =
    absurd (eqb-false _ 92 plain (head_is (sym e ∙ is)))

other_goes : (os : List Group) (o : Group) (w : List ℕ) (t : Short) (c : ℕ) (ts : List ℕ) {all v rest : List ℕ} → Bare (length os) all v rest → all ≡ 92 ∷ c ∷ ts → (c == 44) ≡ false
    → Behind os (with_value o (Word (w ++ v))) t rest → BareGoes os o (w ++ 92 ∷ []) t (c ∷ ts)
other_goes os o w t c ts (Bare.bare_end ends) is fails h = absurd (ends_backslash (length os) 92 refl (subst (EndsBare (length os)) is ends))
other_goes os o w t c ts (Bare.bare_comma e b) is fails h = absurd (eqb-false c 44 fails (sym (head_is (tail_is (sym e ∙ is)))))
other_goes os o w t c ts (Bare.bare_backslash {w = v} {rest = rest} e other b) is fails h =
    (v, rest, subst (λ us. Bare (length os) us v rest) (tail_is (sym e ∙ is)) b, (word_more os o w (92 ∷ []) v t rest).1 h)
other_goes os o w t c ts (Bare.bare_char e plain ends b) is fails h =
    absurd (eqb-false _ 92 plain (head_is (sym e ∙ is)))

pub backslash_step : (os : List Group) (o : Group) (w : List ℕ) (c : ℕ) → StepOf (λ t ts. BareGoes os o (w ++ 92 ∷ []) t (c ∷ ts)) (bare os o (w ++ 92 ∷ []) c)
    → StepOf (λ t ts. BareGoes os o w t (92 ∷ c ∷ ts)) (behind_backslash os o w c)
backslash_step os o w c after =
    let G : Short → List ℕ → Type 0 = λ t ts. BareGoes os o w t (92 ∷ c ∷ ts) in
    either (StepOf G) (c == 44) (at os (place.Bare o (w ++ c ∷ []) run.Plain)) (bare os o (w ++ 92 ∷ []) c)
    (λ e t ts. let comma = eqb-true c 44 e in (
      (λ h. (c ∷ h.0, h.1, subst (λ d. Bare (length os) (92 ∷ d ∷ ts) (d ∷ h.0) h.1) (sym comma) (Bare.bare_comma refl h.2), (word_more os o w (c ∷ []) h.0 t h.1).0 h.3)),
      (λ h. comma_goes os o w t c ts h.2 refl comma h.3),
    ))
    (λ fails. same_step (λ t ts. BareGoes os o (w ++ 92 ∷ []) t (c ∷ ts)) G (bare os o (w ++ 92 ∷ []) c)
    (λ t ts. (
      (λ h. (92 ∷ h.0, h.1, Bare.bare_backslash refl fails h.2, (word_more os o w (92 ∷ []) h.0 t h.1).0 h.3)),
      (λ h. other_goes os o w t c ts h.2 refl fails h.3),
    )) after)
