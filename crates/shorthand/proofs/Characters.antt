-- Characters that are told apart, and keys in front.
use Rattle.std.proofs.Common.{◌≡◌, ℕ, ◌==◌, Bool, true, false, ◌&&◌, if◌then◌else◌, List, [], ◌∷◌, ◌++◌, refl, sym, ap, subst, ◌∙◌, ◌⊎◌, inl, inr, ⊎_elim}
use Rattle.std.proofs.lemmas.Bool.{false≢true, eqb-true, eqb-false, ne_eqb, or_cases, and_parts, and_right, or_from, not_from_false}
use Rattle.std.specs.List.{list_all}
use Rattle.shorthand.specs.Grammar.{without_spaces, is_key_char, is_quote, ends_bare, IsKey, BeginsPair, BeginsBare}

pub either : {A : Type 0} (P : A → Type 0) (b : Bool) (x y : A) → (b ≡ true → P x) → (b ≡ false → P y) → P (if b then x else y)
either P b x y p q = elim b as (λ v. b ≡ v → P (if v then x else y)) [ true ↦ p | false ↦ q ] refl

pub head_is : {c d : ℕ} {ts us : List ℕ} → c ∷ ts ≡ d ∷ us → c ≡ d
head_is e = cc

pub tail_is : {c d : ℕ} {ts us : List ℕ} → c ∷ ts ≡ d ∷ us → ts ≡ us
tail_is e = cc

pub not_nil : {c : ℕ} {ts : List ℕ} → c ∷ ts ≡ [] → ⊥
not_nil e = cc

-- a test that a character passes and another doesn't tells them apart
pub told_apart : (p : ℕ → Bool) (c d : ℕ) → p c ≡ true → p d ≡ false → c ≡ d → ⊥
told_apart p c d holds fails e = false≢true (sym fails ∙ subst (λ x. p x ≡ true) e holds)

pub untrue : {b : Bool} → b ≡ false → b ≡ true → ⊥
untrue fails holds = false≢true (sym fails ∙ holds)

pub is_char : (c d : ℕ) → (c == d) ≡ false → c ≡ d → ⊥
is_char c d = eqb-false c d

pub ends_is : (n c : ℕ) → ends_bare n c ≡ true → (c ≡ 44) ⊎ ((c ≡ 93) ⊎ (c ≡ 125))
ends_is n c e =
    ⊎_elim (λ comma. inl (eqb-true c 44 comma))
    (λ close. ⊎_elim (λ bracket. inr (inl (eqb-true c 93 bracket))) (λ brace. inr (inr (eqb-true c 125 brace))) (or_cases _ _ (and_parts _ _ close).1)) (or_cases _ _ e)

-- a character that is none of the three ends no value
pub ends_not : (n c : ℕ) → (c ≡ 44 → ⊥) → (c ≡ 93 → ⊥) → (c ≡ 125 → ⊥) → ends_bare n c ≡ false
ends_not n c comma bracket brace =
    or_from _ _ (ne_eqb c 44 comma) (and_right _ _ (or_from _ _ (ne_eqb c 93 bracket) (ne_eqb c 125 brace)))

pub quote_is : (c : ℕ) → is_quote c ≡ true → (c ≡ 34) ⊎ (c ≡ 39)
quote_is c e = ⊎_elim (λ h. inl (eqb-true c 34 h)) (λ h. inr (eqb-true c 39 h)) (or_cases _ _ e)

-- a character of a key is none that has a meaning
pub key_char_is_none : (c d : ℕ) → is_key_char c ≡ true → is_key_char d ≡ false → c ≡ d → ⊥
key_char_is_none c d = told_apart is_key_char c d

pub key_ends_not : (n c : ℕ) → is_key_char c ≡ true → ends_bare n c ≡ false
key_ends_not n c key = ends_not n c (key_char_is_none c 44 key refl) (key_char_is_none c 93 key refl) (key_char_is_none c 125 key refl)

pub key_no_quote : (c : ℕ) → is_key_char c ≡ true → is_quote c ≡ false
key_no_quote c key = or_from _ _ (ne_eqb c 34 (key_char_is_none c 34 key refl)) (ne_eqb c 39 (key_char_is_none c 39 key refl))

pub begins_bare : (n c : ℕ) (cs : List ℕ) → is_quote c ≡ false → (c == 91) ≡ false → (c == 123) ≡ false → ends_bare n c ≡ false → BeginsBare n (c ∷ cs)
begins_bare n c cs quote bracket brace ends = not_from_false _ (or_from _ _ (or_from _ _ (or_from _ _ quote bracket) brace) ends)

-- without spaces in front, where there is one, and where there is none
pub space_skipped : (c : ℕ) (ts : List ℕ) → (c == 32) ≡ true → without_spaces (c ∷ ts) ≡ without_spaces ts
space_skipped c ts e = ap (λ b. if b then without_spaces ts else c ∷ ts) e

pub no_space : (c : ℕ) (ts : List ℕ) → (c == 32) ≡ false → without_spaces (c ∷ ts) ≡ c ∷ ts
no_space c ts e = ap (λ b. if b then without_spaces ts else c ∷ ts) e

pub key_no_space : (c : ℕ) (ts : List ℕ) → is_key_char c ≡ true → without_spaces (c ∷ ts) ≡ c ∷ ts
key_no_space c ts key = no_space c ts (ne_eqb c 32 (key_char_is_none c 32 key refl))

-- A front of characters of keys and the first that is none are unique.
pub front_is : (k j : List ℕ) (c d : ℕ) (ts us : List ℕ) → list_all is_key_char k ≡ true → list_all is_key_char j ≡ true → is_key_char c ≡ false → is_key_char d ≡ false
    → k ++ c ∷ ts ≡ j ++ d ∷ us → (k ≡ j) × (c ≡ d) × (ts ≡ us)
front_is [] [] c d ts us all_k all_j no_c no_d e = (refl, head_is e, tail_is e)
front_is [] (y ∷ j) c d ts us all_k all_j no_c no_d e =
    absurd (told_apart is_key_char y c (and_parts _ _ all_j).0 no_c (sym (head_is e)))
front_is (x ∷ k) [] c d ts us all_k all_j no_c no_d e =
    absurd (told_apart is_key_char x d (and_parts _ _ all_k).0 no_d (head_is e))
front_is (x ∷ k) (y ∷ j) c d ts us all_k all_j no_c no_d e =
    let rest = front_is k j c d ts us (and_parts _ _ all_k).1 (and_parts _ _ all_j).1 no_c no_d (tail_is e) in
    let first = head_is e in
    (ap (λ z. z ∷ k) first ∙ ap (λ z. y ∷ z) rest.0, rest.1, rest.2)

pub key_all : (k : List ℕ) → IsKey k → list_all is_key_char k ≡ true
key_all [] h = absurd h
key_all (c ∷ cs) h = h

pub all_more : (k : List ℕ) (c : ℕ) → list_all is_key_char k ≡ true → is_key_char c ≡ true → list_all is_key_char (k ++ c ∷ []) ≡ true
all_more [] c all holds = ap (λ b. b && true) holds
all_more (x ∷ k) c all holds =
    let parts = and_parts _ _ all in
    ap (λ b. b && list_all is_key_char (k ++ c ∷ [])) parts.0 ∙ all_more k c parts.1 holds

pub key_more : (k : List ℕ) (c : ℕ) → list_all is_key_char k ≡ true → is_key_char c ≡ true → IsKey (k ++ c ∷ [])
key_more [] c all holds = all_more [] c all holds
key_more (x ∷ k) c all holds = all_more (x ∷ k) c all holds

pub key_spaces : (k ts : List ℕ) → IsKey k → without_spaces (k ++ ts) ≡ k ++ ts
key_spaces [] ts h = absurd h
key_spaces (c ∷ cs) ts h = key_no_space c (cs ++ ts) (and_parts _ _ h).0

-- a pair that begins behind this front of a key
pub pair_front : (k ts : List ℕ) (c : ℕ) → list_all is_key_char k ≡ true → is_key_char c ≡ false → BeginsPair (k ++ c ∷ ts) → c ≡ 61
pair_front k ts c all fails (j, us, is_key, e) = (front_is k j c 61 ts us all (key_all j is_key) fails refl e).1

-- a pair begins with a character of a key
pub pair_char : (c : ℕ) (ts k us : List ℕ) → IsKey k → c ∷ ts ≡ k ++ 61 ∷ us → is_key_char c ≡ true
pair_char c ts [] us h e = absurd h
pair_char c ts (d ∷ k) us h e = subst (λ x. is_key_char x ≡ true) (sym (head_is e)) (and_parts _ _ h).0
