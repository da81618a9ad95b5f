-- The rest of a name behind a prefix, a character at a time.
use Rattle.std.proofs.Common.{◌≡◌, ℕ, Bool, true, false, if◌then◌else◌, List, [], ◌∷◌, ◌++◌, Option, None, Some, refl, sym, ap, ◌∙◌}
use Rattle.std.specs.Prelude.{encode_utf8}
use Rattle.std.specs.Char.{eq_ignore_ascii_case}
use Rattle.std.specs.Str.{chars, IsUtf8}
use Rattle.std.proofs.lemmas.Str.{chars_past_char}
use Rattle.texts.proofs.Texts.{chars_ascii}
use Rattle.resp_parser.specs.Headers.{rest_behind}

none : (s : List ℕ) → s ≡ [] → chars s ≡ []
none s e = ap chars e ∙ chars_ascii [] refl

pub behind-heads : (s t u v : List ℕ) (p c : ℕ) → IsUtf8 s → IsUtf8 t → s ≡ encode_utf8 p ++ u → t ≡ encode_utf8 c ++ v
    → rest_behind (chars s) (chars t) ≡ (if eq_ignore_ascii_case p c then rest_behind (chars u) (chars v) else None)
behind-heads s t u v p c su tu se te =
    ap (λ xs. rest_behind xs (chars t)) (chars_past_char s u p su se) ∙ ap (rest_behind (p ∷ chars u)) (chars_past_char t v c tu te)

pub behind-longer : (s t u : List ℕ) (p : ℕ) → IsUtf8 s → s ≡ encode_utf8 p ++ u → t ≡ [] → rest_behind (chars s) (chars t) ≡ None
behind-longer s t u p su se te = ap (λ xs. rest_behind xs (chars t)) (chars_past_char s u p su se) ∙ ap (rest_behind (p ∷ chars u)) (none t te)

pub behind-ended : (s t : List ℕ) → s ≡ [] → rest_behind (chars s) (chars t) ≡ Some (chars t)
behind-ended s t e = ap (λ xs. rest_behind xs (chars t)) (none s e)

pub chosen : (b : Bool) (o : Option (List ℕ)) → b ≡ true → (if b then o else None) ≡ o
chosen b o e = ap (λ c. if c then o else None) e

pub refused : (b : Bool) (o : Option (List ℕ)) → b ≡ false → (if b then o else None) ≡ None
refused b o e = ap (λ c. if c then o else None) e
