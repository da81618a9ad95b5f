-- Heads of sections, and the profiles that they name: the tests against the grammar.
use Rattle.std.proofs.Common.{◌≡◌, ℕ, ◌+◌, ◌-◌, ◌<◌, Bool, true, false, cond, List, [], ◌∷◌, ◌++◌, length, get_or, take, drop, eqb, ltb, Option, None, Some, sym, refl, ap, ◌∙◌, subst, inl, inr, ⊎_elim, append_assoc, arith}
use Rattle.std.specs.Prelude.{◌⊎◌, ◌≢◌, ◌&&◌, All, not, codes, bytes_eq, slice_range, option_map, option_and_then}
use Rattle.std.specs.List.{starts_with, ends_with, list_all}
use Rattle.std.specs.Option.{option_or}
use Rattle.std.specs.Str.{chars}
use Rattle.std.proofs.lemmas.Bool.{and_parts, and_from, or_parts, or_from, not-true, not_from_false, ltb-true, lt-ltb, eqb-false, ne_eqb, cond-true, cond-false, false≢true}
use Rattle.std.proofs.lemmas.Bool.Decides.{Decides-eqb}
use Rattle.std.proofs.lemmas.List.{length-append, length-drop, take_at, same_from_push}
use Rattle.std.proofs.lemmas.List.Elements.{All-weaker}
use Rattle.std.proofs.lemmas.List.Sums.{AllPass-from_list_all, list_all-from_AllPass}
use Rattle.std.proofs.lemmas.Slice.Eq.{starts_is, ends_is, bytes_eq-Decides}
use Rattle.config_file.specs.declared.fault.FileKind.{FileKind}
use Rattle.config_file.specs.declared.fault.FileKind.TheVariants.{Config, Credentials}
use Rattle.config_file.specs.Grammar.{IsBlank, IsHead, IsConfigProfile, IsProfileOf, NamesProfile}
use Rattle.config_file.specs.Lines.{in_brackets, in_quotes, has_no_quote, quoted_in, is_word_byte, word_in, after_profile, quoted_or_word, config_profile, profile_named}
use Rattle.config_file.specs.Trimmed.{is_blank, end_trimmed}
use Rattle.config_file.proofs.Trims.{EndsTrim, last_of, end_is, end_parts, blank_test, other_test}

-- a choice that gave something
pub some_of : {A : Type 0} (b : Bool) (x y : A) → cond b (Some x) None ≡ Some y → (b ≡ true) × (x ≡ y)
some_of true x y is = (refl, cc)
some_of false x y is = absurd (cc)

inside_at : (o c : ℕ) (m : List ℕ) → slice_range (o ∷ m ++ c ∷ []) 1 (length (o ∷ m ++ c ∷ []) - 1) ≡ m
inside_at o c m =
    let n : length (o ∷ m ++ c ∷ []) - 1 - 1 ≡ length m = omega (arith, length-append m (c ∷ [])) in
    ap (λ k. take k (m ++ c ∷ [])) n ∙ take_at m (c ∷ []) (length m) refl

-- what stands between two bytes
record Wrapped (o c : ℕ) (t m : List ℕ) : Type 0 where
  is : t ≡ o ∷ m ++ c ∷ []
  inside : slice_range t 1 (length t - 1) ≡ m

wrapped_from : (o c : ℕ) (t m : List ℕ) → t ≡ o ∷ m ++ c ∷ [] → Wrapped o c t m
wrapped_from o c t m is = record { is = is; inside = ap (λ u. slice_range u 1 (length u - 1)) is ∙ inside_at o c m }

wrap_parts : (o c : ℕ) (t : List ℕ) → starts_with eqb t (o ∷ []) ≡ true → ends_with eqb t (c ∷ []) ≡ true → 1 < length t
    → Wrapped o c t (slice_range t 1 (length t - 1))
wrap_parts o c t starts ends some =
    let first : t ≡ (o ∷ []) ++ drop 1 t = (starts_is Decides-eqb t (o ∷ []) (starts_with eqb t (o ∷ [])) refl).0 starts in
    let last = last_of (drop 1 t) (omega (arith, length-drop 1 t)) in
    let whole : t ≡ (o ∷ last.0) ++ last.1 ∷ [] = first ∙ ap (λ u. o ∷ u) last.2 in
    let tail : t ≡ take (length t - 1) t ++ c ∷ [] = (ends_is Decides-eqb t (c ∷ []) (ends_with eqb t (c ∷ [])) refl).0 ends in
    let same = same_from_push (o ∷ last.0) (take (length t - 1) t) last.1 c (sym whole ∙ tail) in
    let shape : t ≡ o ∷ last.0 ++ c ∷ [] = whole ∙ ap (λ b. (o ∷ last.0) ++ b ∷ []) same.1 in
    let made = wrapped_from o c t last.0 shape in
    record { is = shape ∙ ap (λ m. o ∷ m ++ c ∷ []) (sym made.inside); inside = refl }

wrap_starts : (o c : ℕ) (t m : List ℕ) → Wrapped o c t m → starts_with eqb t (o ∷ []) ≡ true
wrap_starts o c t m w = (starts_is Decides-eqb t (o ∷ []) (starts_with eqb t (o ∷ [])) refl).1 (m ++ c ∷ []) w.is

wrap_ends : (o c : ℕ) (t m : List ℕ) → Wrapped o c t m → ends_with eqb t (c ∷ []) ≡ true
wrap_ends o c t m w = (ends_is Decides-eqb t (c ∷ []) (ends_with eqb t (c ∷ [])) refl).1 (o ∷ m) w.is

wrap_length : (o c : ℕ) (t m : List ℕ) → Wrapped o c t m → length t ≡ length m + 2
wrap_length o c t m w = omega (arith, ap length w.is, length-append m (c ∷ []))

brackets_say : (t name : List ℕ) → in_brackets t ≡ Some name → (t ≡ 91 ∷ name ++ 93 ∷ []) × (name ≢ [])
brackets_say t name is =
    let made = some_of (starts_with eqb t (91 ∷ []) && ends_with eqb t (93 ∷ []) && ltb 2 (length t)) (slice_range t 1 (length t - 1)) name is in
    let tests = and_parts (starts_with eqb t (91 ∷ []) && ends_with eqb t (93 ∷ [])) (ltb 2 (length t)) made.0 in
    let both = and_parts (starts_with eqb t (91 ∷ [])) (ends_with eqb t (93 ∷ [])) tests.0 in
    let long : 2 < length t = ltb-true 2 (length t) tests.1 in
    let w = wrap_parts 91 93 t both.0 both.1 (omega arith) in
    let shape : t ≡ 91 ∷ name ++ 93 ∷ [] = w.is ∙ ap (λ m. 91 ∷ m ++ 93 ∷ []) made.1 in
    (shape, λ none. omega (arith, ap length none, wrap_length 91 93 t name (wrapped_from 91 93 t name shape)))

brackets_from : (t name : List ℕ) → t ≡ 91 ∷ name ++ 93 ∷ [] → 0 < length name → in_brackets t ≡ Some name
brackets_from t name is some =
    let w = wrapped_from 91 93 t name is in
    let long : 2 < length t = omega (arith, wrap_length 91 93 t name w) in
    cond-true (starts_with eqb t (91 ∷ []) && ends_with eqb t (93 ∷ []) && ltb 2 (length t)) (Some (slice_range t 1 (length t - 1))) None
    (and_from _ _ (and_from _ _ (wrap_starts 91 93 t name w) (wrap_ends 91 93 t name w)) (lt-ltb 2 (length t) long))
    ∙ ap Some w.inside

quotes_say : (t inside : List ℕ) → in_quotes t ≡ Some inside → t ≡ 34 ∷ inside ++ 34 ∷ []
quotes_say t inside is =
    let made = some_of (starts_with eqb t (34 ∷ []) && ends_with eqb t (34 ∷ []) && ltb 1 (length t)) (slice_range t 1 (length t - 1)) inside is in
    let tests = and_parts (starts_with eqb t (34 ∷ []) && ends_with eqb t (34 ∷ [])) (ltb 1 (length t)) made.0 in
    let both = and_parts (starts_with eqb t (34 ∷ [])) (ends_with eqb t (34 ∷ [])) tests.0 in
    let w = wrap_parts 34 34 t both.0 both.1 (ltb-true 1 (length t) tests.1) in
    w.is ∙ ap (λ m. 34 ∷ m ++ 34 ∷ []) made.1

quotes_from : (t inside : List ℕ) → t ≡ 34 ∷ inside ++ 34 ∷ [] → in_quotes t ≡ Some inside
quotes_from t inside is =
    let w = wrapped_from 34 34 t inside is in
    let long : 1 < length t = omega (arith, wrap_length 34 34 t inside w) in
    cond-true (starts_with eqb t (34 ∷ []) && ends_with eqb t (34 ∷ []) && ltb 1 (length t)) (Some (slice_range t 1 (length t - 1))) None
    (and_from _ _ (and_from _ _ (wrap_starts 34 34 t inside w) (wrap_ends 34 34 t inside w)) (lt-ltb 1 (length t) long))
    ∙ ap Some w.inside

some_length : (xs : List ℕ) → xs ≢ [] → 0 < length xs
some_length [] other = absurd (other refl)
some_length (x ∷ xs) other = omega arith

bracket_ends : (name : List ℕ) → EndsTrim (91 ∷ name ++ 93 ∷ [])
bracket_ends name front b is blank =
    let same = same_from_push (91 ∷ name) front 93 b is in
    ⊎_elim (λ e. omega (arith, same.1)) (λ e. omega (arith, same.1)) blank

-- `[`, a name, `]` and blanks
pub head_says : (line name : List ℕ) → in_brackets (end_trimmed line) ≡ Some name → IsHead name line
head_says line name is =
    let shape = brackets_say (end_trimmed line) name is in
    let parts = end_parts line in
    (parts.blanks, parts.is ∙ ap (λ t. t ++ parts.blanks) shape.0 ∙ append_assoc (91 ∷ name) (93 ∷ []) parts.blanks, shape.1, parts.blank)

pub head_from : (line name : List ℕ) → IsHead name line → in_brackets (end_trimmed line) ≡ Some name
head_from line name head =
    let cut : end_trimmed line ≡ 91 ∷ name ++ 93 ∷ [] =
    ap end_trimmed (head.1 ∙ sym (append_assoc (91 ∷ name) (93 ∷ []) head.0)) ∙ end_is (91 ∷ name ++ 93 ∷ []) head.0 (bracket_ends name) head.3 in
    brackets_from (end_trimmed line) name cut (some_length name head.2)

-- the profile of a name, in quotation marks or as one word
no_quotes : (text : List ℕ) → has_no_quote text ≡ true → All (λ b. b ≢ 34) text
no_quotes text test = All-weaker (λ b. not (eqb b 34) ≡ true) (λ b. b ≢ 34) (λ b e. eqb-false b 34 (not-true (eqb b 34) e)) text
    (AllPass-from_list_all (λ b. not (eqb b 34)) text test)

no_quotes_test : (text : List ℕ) → All (λ b. b ≢ 34) text → has_no_quote text ≡ true
no_quotes_test text all = list_all-from_AllPass (λ b. not (eqb b 34)) text
    (All-weaker (λ b. b ≢ 34) (λ b. not (eqb b 34) ≡ true) (λ b other. not_from_false (eqb b 34) (ne_eqb b 34 other)) text all)

abbrev Quoted : List ℕ → List ℕ → Type 0
Quoted text profile = (text ≡ 34 ∷ profile ++ 34 ∷ []) × All (λ b. b ≢ 34) profile

quoted_step : (text profile : List ℕ) (o : Option (List ℕ)) → in_quotes text ≡ o
    → option_and_then (λ inside. cond (has_no_quote inside) (Some inside) None) o ≡ Some profile → Quoted text profile
quoted_step text profile None found is = absurd (cc)
quoted_step text profile (Some inside) found is =
    let made = some_of (has_no_quote inside) inside profile is in
    (quotes_say text inside found ∙ ap (λ m. 34 ∷ m ++ 34 ∷ []) made.1, no_quotes profile (ap has_no_quote (sym made.1) ∙ made.0))

quoted_says : (text profile : List ℕ) → quoted_in text ≡ Some profile → Quoted text profile
quoted_says text profile is = quoted_step text profile (in_quotes text) refl is

quoted_from : (text profile : List ℕ) → Quoted text profile → quoted_in text ≡ Some profile
quoted_from text profile quoted =
    ap (option_and_then (λ inside. cond (has_no_quote inside) (Some inside) None)) (quotes_from text profile quoted.0)
    ∙ cond-true (has_no_quote profile) (Some profile) None (no_quotes_test profile quoted.1)

abbrev IsWordByte : ℕ → Type 0
IsWordByte b = (¬ IsBlank b) × (b ≢ 34)

word_byte : (b : ℕ) → is_word_byte b ≡ true → IsWordByte b
word_byte b test =
    let parts = or_parts (is_blank b) (eqb b 34) (not-true _ test) in
    (λ blank. false≢true (sym parts.0 ∙ blank_test b blank), eqb-false b 34 parts.1)

word_byte_test : (b : ℕ) → IsWordByte b → is_word_byte b ≡ true
word_byte_test b is = not_from_false _ (or_from (is_blank b) (eqb b 34) (other_test b is.0) (ne_eqb b 34 is.1))

abbrev Word : List ℕ → List ℕ → Type 0
Word text profile = (text ≡ profile) × (profile ≢ []) × All IsWordByte profile

word_says : (text profile : List ℕ) → word_in text ≡ Some profile → Word text profile
word_says text profile is =
    let made = some_of (ltb 0 (length text) && list_all is_word_byte text) text profile is in
    let tests = and_parts (ltb 0 (length text)) (list_all is_word_byte text) made.0 in
    let some : 0 < length text = ltb-true 0 (length text) tests.0 in (
      made.1,
      λ none. omega (arith, ap length (made.1 ∙ none)),
      subst (All IsWordByte) made.1 (All-weaker (λ b. is_word_byte b ≡ true) IsWordByte word_byte text (AllPass-from_list_all is_word_byte text tests.1)),
    )

word_from : (profile : List ℕ) → profile ≢ [] → All IsWordByte profile → word_in profile ≡ Some profile
word_from profile some all = cond-true (ltb 0 (length profile) && list_all is_word_byte profile) (Some profile) None
    (and_from _ _ (lt-ltb 0 (length profile) (some_length profile some))
    (list_all-from_AllPass is_word_byte profile (All-weaker IsWordByte (λ b. is_word_byte b ≡ true) word_byte_test profile all)))

word_step : (profile : List ℕ) (o : Option (List ℕ)) → quoted_in profile ≡ o → profile ≢ [] → All IsWordByte profile → o ≡ None
word_step profile None found some all = refl
word_step profile (Some inside) found some all =
    let quoted = quoted_says profile inside found in
    absurd ((all 0 0 (some_length profile some)).1 (ap (λ l. get_or l 0 0) quoted.0))

-- what may stand behind `profile `
abbrev Either : List ℕ → List ℕ → Type 0
Either text profile = Quoted text profile ⊎ Word text profile

either_step : (text profile : List ℕ) (o : Option (List ℕ)) → quoted_in text ≡ o → option_or o (word_in text) ≡ Some profile → Either text profile
either_step text profile None found is = inr (word_says text profile is)
either_step text profile (Some inside) found is = inl (quoted_says text profile (found ∙ is))

either_says : (text profile : List ℕ) → quoted_or_word text ≡ Some profile → Either text profile
either_says text profile is = either_step text profile (quoted_in text) refl is

quoted_or : (text profile : List ℕ) → Quoted text profile → quoted_or_word text ≡ Some profile
quoted_or text profile quoted = ap (λ o. option_or o (word_in text)) (quoted_from text profile quoted)

or_word : (profile : List ℕ) → profile ≢ [] → All IsWordByte profile → quoted_or_word profile ≡ Some profile
or_word profile some all =
    ap (λ o. option_or o (word_in profile)) (word_step profile (quoted_in profile) refl some all) ∙ word_from profile some all

config_behind : (name rest profile : List ℕ) → name ≡ codes "profile " ++ rest → Either rest profile → IsConfigProfile name profile
config_behind name rest profile is (inl quoted) = inr (inl (is ∙ ap (λ r. codes "profile " ++ r) quoted.0, quoted.1))
config_behind name rest profile is (inr word) = inr (inr (is ∙ ap (λ r. codes "profile " ++ r) word.0, word.1, word.2))

behind_step : (name profile : List ℕ) (b : Bool) → starts_with eqb name (codes "profile ") ≡ b
    → option_and_then quoted_or_word (cond b (Some (drop 8 name)) None) ≡ Some profile → IsConfigProfile name profile
behind_step name profile true starts is =
    config_behind name (drop 8 name) profile
    ((starts_is Decides-eqb name (codes "profile ") (starts_with eqb name (codes "profile ")) refl).0 starts)
    (either_says (drop 8 name) profile is)
behind_step name profile false starts is = absurd (cc)

config_step : (name profile : List ℕ) (b : Bool) → bytes_eq name (codes "default") ≡ b
    → cond b (Some name) (option_and_then quoted_or_word (after_profile name)) ≡ Some profile → IsConfigProfile name profile
config_step name profile true same is =
    let e : name ≡ profile = cc in
    inl ((bytes_eq-Decides name (codes "default")).0 same, sym e)
config_step name profile false same is = behind_step name profile (starts_with eqb name (codes "profile ")) refl is

config_says : (name profile : List ℕ) → config_profile name ≡ Some profile → IsConfigProfile name profile
config_says name profile is = config_step name profile (bytes_eq name (codes "default")) refl is

behind_from : (name rest profile : List ℕ) → name ≡ codes "profile " ++ rest → quoted_or_word rest ≡ Some profile → config_profile name ≡ Some profile
behind_from name rest profile is made =
    let starts : starts_with eqb name (codes "profile ") ≡ true =
    (starts_is Decides-eqb name (codes "profile ") (starts_with eqb name (codes "profile ")) refl).1 rest is in
    let after : after_profile name ≡ Some rest =
    cond-true (starts_with eqb name (codes "profile ")) (Some (drop 8 name)) None starts ∙ ap (λ n. Some (drop 8 n)) is in
    cond-false (bytes_eq name (codes "default")) (Some name) (option_and_then quoted_or_word (after_profile name)) (ap (λ n. bytes_eq n (codes "default")) is)
    ∙ ap (option_and_then quoted_or_word) after ∙ made

config_from : (name profile : List ℕ) → IsConfigProfile name profile → config_profile name ≡ Some profile
config_from name profile (inl default) =
    cond-true (bytes_eq name (codes "default")) (Some name) (option_and_then quoted_or_word (after_profile name)) ((bytes_eq-Decides name (codes "default")).1 default.0)
    ∙ ap Some (sym default.1)
config_from name profile (inr (inl quoted)) =
    behind_from name (34 ∷ profile ++ 34 ∷ []) profile quoted.0 (quoted_or (34 ∷ profile ++ 34 ∷ []) profile (refl, quoted.1))
config_from name profile (inr (inr word)) = behind_from name profile profile word.0 (or_word profile word.1 word.2)

named_says : (kind : FileKind) (name profile : List ℕ) → profile_named kind name ≡ Some profile → IsProfileOf kind name profile
named_says Config name profile is = config_says name profile is
named_says Credentials name profile is = cc

named_from : (kind : FileKind) (name profile : List ℕ) → IsProfileOf kind name profile → profile_named kind name ≡ Some profile
named_from Config name profile is = config_from name profile is
named_from Credentials name profile is = ap Some (sym is)

names_step : (kind : FileKind) (name : List ℕ) (o : Option (List ℕ)) → profile_named kind name ≡ o → NamesProfile kind name (option_map chars o)
names_step kind name None found = λ profile is. let e : None ≡ Some profile = sym found ∙ named_from kind name profile is in absurd (cc)
names_step kind name (Some profile) found = (profile, named_says kind name profile found, refl)

-- the profile that is read is that of the name
pub names_says : (kind : FileKind) (name : List ℕ) → NamesProfile kind name (option_map chars (profile_named kind name))
names_says kind name = names_step kind name (profile_named kind name) refl

none_step : (kind : FileKind) (name : List ℕ) (o : Option (List ℕ)) → profile_named kind name ≡ o → NamesProfile kind name None → o ≡ None
none_step kind name None found none = refl
none_step kind name (Some profile) found none = absurd (none profile (named_says kind name profile found))

pub names_from : (kind : FileKind) (name : List ℕ) (profile : Option (List ℕ)) → NamesProfile kind name profile
    → option_map chars (profile_named kind name) ≡ profile
names_from kind name None names = ap (option_map chars) (none_step kind name (profile_named kind name) refl names)
names_from kind name (Some shown) names = ap (option_map chars) (named_from kind name names.0 names.1) ∙ ap Some (sym names.2)
