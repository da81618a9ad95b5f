use Rattle.std.proofs.Common.{◌≡◌, ℕ, List, [], ◌∷◌, ◌++◌, Some, sym, ap, ◌∙◌, append_assoc, lit<}
use Rattle.std.specs.Prelude.{codes}
use Rattle.std.specs.Option.{option_copied}
use Rattle.std.specs.Str.{chars}
use Rattle.std.proofs.lemmas.Str.{chars-append, chars-IsAscii, IsUtf8-from_ascii}
use Rattle.std.proofs.lemmas.Str.Ascii.{IsAscii-nil, IsAscii-cons}
use Rattle.config_file.specs.Places.{at_home}
use Rattle.config_file.proofs.places.at_home.Goals as goal

-- a path with `~/` in front is these two characters and the rest
tilde : (path bytes rest : List ℕ) → chars bytes ≡ path → bytes ≡ 126 ∷ 47 ∷ rest → path ≡ 126 ∷ 47 ∷ chars rest
tilde path bytes rest view front =
    let ascii = IsAscii-cons 126 (47 ∷ []) (lit< tt) (IsAscii-cons 47 [] (lit< tt) IsAscii-nil) in
    sym view ∙ ap chars front ∙ chars-append (126 ∷ 47 ∷ []) rest (IsUtf8-from_ascii (126 ∷ 47 ∷ []) ascii)
    ∙ ap (λ cs. cs ++ chars rest) (chars-IsAscii (126 ∷ 47 ∷ []) ascii)

below_home : (home path made rest : List ℕ) → path ≡ 126 ∷ 47 ∷ chars rest → made ≡ (home ++ 47 ∷ []) ++ chars rest → made ≡ at_home (Some home) path
below_home home path made rest front is =
    is ∙ append_assoc home (47 ∷ []) (chars rest) ∙ sym (ap (at_home (Some home)) front)

pub returns : goal.returns
returns c =
    let strip = c.in-Some-Some.ensures.cases in
    let front : c.as_str.result.now ≡ codes "~/" ++ c.in-Some-Some.rest.now = strip.1.1 ∙ ap (λ r. codes "~/" ++ r) (sym strip.2) in
    let made : c.push_str.new.self ≡ (c.in-Some-Some.home.now ++ 47 ∷ []) ++ chars c.in-Some-Some.rest.now =
    c.in_ok-push_str.ensures.ok
    ∙ ap (λ m. m ++ chars c.in-Some-Some.rest.now) (c.in_ok-push.ensures.ok ∙ ap (λ h. h ++ 47 ∷ []) c.in_ok-made.ensures) in
    below_home c.in-Some-Some.home.now c.args.path.now c.push_str.new.self c.in-Some-Some.rest.now
    (tilde c.args.path.now c.as_str.result.now c.in-Some-Some.rest.now c.as_str.ensures.value front) made
    ∙ ap (λ h. at_home h c.args.path.now) (sym (ap option_copied c.in-Some-Some.is-0))
