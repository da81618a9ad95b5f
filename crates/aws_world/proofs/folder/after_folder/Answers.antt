use Rattle.std.proofs.Common.{◌≡◌, ◌≢◌, sym, ap, ◌∙◌, ◌++◌, ◌∷◌, List, ℕ, Some, None, lit<, Bor}
use Rattle.std.specs.Prelude.{MatchOption, Option, IfNone, IfSome, encode_utf8_all}
use Rattle.std.specs.Str.{chars}
use Rattle.std.proofs.lemmas.Str.Pattern.{strip_prefix_char}
use Rattle.std.proofs.lemmas.List.{append_cancel_left}
use Rattle.aws_world.specs.FileTree.{IsBelow}
use Rattle.aws_world.proofs.Folders.{below_from_bytes, bytes_below}
use Rattle.aws_world.proofs.folder.after_folder.Goals as goal

-- without '/' after the folder's bytes, the path isn't below
not_below : (folder path fbytes pbytes rest : List ℕ) (r : Option (Bor (List ℕ))) → fbytes ≡ encode_utf8_all folder → pbytes ≡ encode_utf8_all path
    → pbytes ≡ fbytes ++ rest → MatchOption r ((tail : List ℕ) → rest ≢ 47 ∷ tail) (λ x. rest ≡ 47 ∷ x.now) → IfNone r (¬ IsBelow folder path)
not_below folder path fbytes pbytes rest None ef ep e cut = λ below.
    let t = bytes_below folder path fbytes pbytes ef ep below in
    cut t.0 (append_cancel_left fbytes rest (47 ∷ t.0) (sym e ∙ t.1))
not_below folder path fbytes pbytes rest (Some x) ef ep e cut = tt

-- and with it, the rest is what follows
follows_slash : (rest : List ℕ) (r : Option (Bor (List ℕ))) (P : List ℕ → Type 0) → MatchOption r ((tail : List ℕ) → rest ≢ 47 ∷ tail) (λ x. rest ≡ 47 ∷ x.now)
    → ((tail : List ℕ) → rest ≡ 47 ∷ tail → P tail) → IfSome r (λ x. P x.now)
follows_slash rest None P cut give = tt
follows_slash rest (Some x) P cut give = give x.now cut

pub returns-in_default-clause-none : goal.returns-in_default-clause-none
returns-in_default-clause-none c below =
    let t = bytes_below _ _ _ _ c.as_str-2.ensures.bytes c.as_str.ensures.bytes below in
    c.in_default.ensures.cases (47 ∷ t.0) t.1

pub returns-clause-none : goal.returns-clause-none
returns-clause-none c =
    let cut = strip_prefix_char 47 c.in-Some.rest.now c.strip_prefix-2.result c.strip_prefix-2.ensures.cases (lit< tt) in
    let strip = c.in-Some.ensures.cases in
    not_below _ _ _ _ _ _ c.as_str-2.ensures.bytes c.as_str.ensures.bytes (strip.1.1 ∙ ap (λ r. c.as_str-2.result.now ++ r) (sym strip.2)) cut

pub returns-clause-rest : goal.returns-clause-rest
returns-clause-rest c =
    let cut = strip_prefix_char 47 c.in-Some.rest.now c.strip_prefix-2.result c.strip_prefix-2.ensures.cases (lit< tt) in
    let strip = c.in-Some.ensures.cases in
    follows_slash c.in-Some.rest.now c.strip_prefix-2.result (λ tail. c.args.path.now ≡ c.args.folder.now ++ 47 ∷ chars tail) cut
    (λ tail e. below_from_bytes _ _ _ _ _ _ c.as_str-2.ensures.value c.as_str.ensures.value c.as_str-2.utf8 (strip.1.1 ∙ ap (λ r. c.as_str-2.result.now ++ r) (sym strip.2)) e)
