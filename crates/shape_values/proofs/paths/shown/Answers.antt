use Rattle.std.proofs.Common.{◌≡◌, List, ℕ, ◌∷◌, ◌++◌, sym, ap, ◌∙◌, lit<, Some}
use Rattle.std.specs.Str.{chars, IsUtf8}
use Rattle.std.proofs.lemmas.Str.{chars_past_char, encode_ascii}
use Rattle.std.proofs.lemmas.Str.Pattern.{strip_prefix_char}
use Rattle.shape_values.specs.Faults.{shown}
use Rattle.shape_values.proofs.paths.shown.Goals as goal

-- the characters behind a point
behind : (text rest path : List ℕ) → IsUtf8 text → chars text ≡ path → text ≡ 46 ∷ rest → chars rest ≡ shown path
behind text rest path utf8 is cut =
    ap shown (sym (chars_past_char text rest 46 utf8 (cut ∙ sym (ap (λ bs. bs ++ rest) (encode_ascii 46 (lit< tt))))) ∙ is)

pub returns-in-Some : goal.returns-in-Some
returns-in-Some c =
    let text = c.as_str-text.result.now in
    let rest = c.in-Some.rest in
    let cut = strip_prefix_char 46 text (Some rest) c.in-Some.ensures.cases (lit< tt) in
    let same = behind text rest.now c.args.path.now c.as_str-text.utf8 c.as_str-text.ensures.value cut in
    rw same at c.from_str.ensures
