-- Texts made of characters of one kind, by their bytes and by their characters.
use Rattle.std.proofs.Common.{◌≡◌, ◌≢◌, ◌==◌, ℕ, Bool, true, false, List, [], ◌∷◌, length, refl, sym, ap, ◌∙◌}
use Rattle.std.specs.Prelude.{encode_utf8_all}
use Rattle.std.specs.List.{list_all}
use Rattle.std.specs.Str.{chars, IsUtf8}
use Rattle.std.proofs.lemmas.Bool.{false≢true, eqb-true}
use Rattle.std.proofs.lemmas.Str.{encodes-chars, chars-nil}
use Rattle.rule_terms.specs.Characters.{is_empty, is_made_of}

pub no_bytes : (bs : List ℕ) → (length bs == 0) ≡ true → chars bs ≡ []
no_bytes [] is = chars-nil
no_bytes (b ∷ bs) is = absurd (cc (eqb-true (length (b ∷ bs)) 0 is))

pub some_bytes : (bs : List ℕ) → IsUtf8 bs → (length bs == 0) ≡ false → chars bs ≢ []
some_bytes [] utf8 some none = false≢true (sym some)
some_bytes (b ∷ bs) utf8 some none = absurd (cc (sym (encodes-chars (b ∷ bs) utf8) ∙ ap encode_utf8_all none))

made : (test : ℕ → Bool) (cs : List ℕ) → cs ≢ [] → list_all test cs ≡ is_made_of test cs
made test [] some = absurd (some refl)
made test (c ∷ cs) some = refl

pub made_of : (test : ℕ → Bool) (bs : List ℕ) (r : Bool) → IsUtf8 bs → (length bs == 0) ≡ false → r ≡ list_all test (chars bs) → r ≡ is_made_of test (chars bs)
made_of test bs r utf8 some is = is ∙ made test (chars bs) (some_bytes bs utf8 some)

pub made_of_none : (test : ℕ → Bool) (bs : List ℕ) → (length bs == 0) ≡ true → false ≡ is_made_of test (chars bs)
made_of_none test bs none = ap (is_made_of test) (sym (no_bytes bs none))

empty : (cs : List ℕ) → cs ≢ [] → false ≡ is_empty cs
empty [] some = absurd (some refl)
empty (c ∷ cs) some = refl

-- without bytes there are no characters
pub empty_same : (bs : List ℕ) (r : Bool) → IsUtf8 bs → r ≡ (length bs == 0) → r ≡ is_empty (chars bs)
empty_same bs true utf8 is = ap is_empty (sym (no_bytes bs (sym is)))
empty_same bs false utf8 is = empty (chars bs) (some_bytes bs utf8 (sym is))
