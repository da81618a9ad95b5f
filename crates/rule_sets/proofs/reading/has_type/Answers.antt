use Rattle.std.proofs.Common.{ap, ◌∙◌}
use Rattle.std.specs.Prelude.{bytes_eq, codes}
use Rattle.std.specs.Str.{chars}
use Rattle.texts.proofs.Texts.{bytes_eq-chars, chars_ascii}
use Rattle.rule_terms.specs.Seen.{text_at}
use Rattle.rule_sets.proofs.reading.has_type.Goals as goal

pub returns : goal.returns
returns c =
    let name = c.args.name.now in
    c.eq.ensures ∙ bytes_eq-chars c.text_at.result.now name c.text_at.utf8 c.utf8.name
    ∙ ap (λ t. bytes_eq t (chars name)) c.text_at.ensures
    ∙ ap (bytes_eq (text_at (codes "type") c.args.doc.now)) (chars_ascii name c.requires)
