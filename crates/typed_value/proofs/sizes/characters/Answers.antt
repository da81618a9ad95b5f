use Rattle.std.proofs.Common.{◌≡◌, length, rules, ap, ◌∙◌}
use Rattle.std.specs.Str.{chars}
use Rattle.std.proofs.lemmas.Str.{chars_from_encodes}
use Rattle.typed_value.proofs.sizes.characters.Goals as goal

pub returns : goal.returns
returns c =
    let counted : c.count.result ≡ length (chars c.as_str.result.now) = search (rules, chars_from_encodes) in
    counted ∙ ap length c.as_str.ensures.value
