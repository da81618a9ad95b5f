use Rattle.std.proofs.Common.{sym, ap, ◌∙◌}
use Rattle.std.specs.Prelude.{encode_utf8_all}
use Rattle.std.proofs.lemmas.Str.{encodes-chars, IsUtf8-string_bytes}
use Rattle.texts.proofs.text.Text.into_bytes.Goals as goal

pub returns : goal.returns
returns c =
    let bytes = IsUtf8-string_bytes c.self.inside.inner in
    c.from_vec.ensures ∙ ap (λ v. v.items) c.into_bytes.ensures.value ∙ sym (encodes-chars _ bytes) ∙ ap encode_utf8_all c.self.view_is
