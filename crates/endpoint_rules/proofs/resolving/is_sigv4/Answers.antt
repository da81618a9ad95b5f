use Rattle.std.proofs.Common.{refl, ap, ◌∙◌}
use Rattle.std.specs.Prelude.{codes, bytes_eq}
use Rattle.std.specs.Str.{chars}
use Rattle.std.proofs.lemmas.Str.{IsUtf8-from_ascii}
use Rattle.texts.proofs.Texts.{bytes_eq-chars, chars_ascii}
use Rattle.endpoint_rules.proofs.Substrings.{told_ascii}
use Rattle.endpoint_rules.proofs.resolving.is_sigv4.Goals as goal

pub returns : goal.returns
returns c =
    let name = c.text_at.result.now in
    c.eq.ensures ∙ bytes_eq-chars name (codes "sigv4") c.text_at.utf8 (IsUtf8-from_ascii (codes "sigv4") (told_ascii (codes "sigv4") refl))
    ∙ ap (λ t. bytes_eq (chars name) t) (chars_ascii (codes "sigv4") refl)
    ∙ ap (λ t. bytes_eq t (codes "sigv4")) c.text_at.ensures
