use Rattle.std.proofs.Common.{sym, ap, ◌∙◌}
use Rattle.std.specs.Prelude.{flat_map}
use Rattle.std.proofs.lemmas.Str.{encodes-chars}
use Rattle.uri_texts.specs.Escapes.{escaped_byte}
use Rattle.uri_texts.proofs.escapes.push_escaped.Goals as goal

pub returns : goal.returns
returns c =
    let same = c.as_bytes.ensures.value ∙ sym (encodes-chars c.args.text.now c.utf8.text) in
    rw (ap (flat_map (escaped_byte c.args.slashes)) same) at c.push_bytes.ensures
