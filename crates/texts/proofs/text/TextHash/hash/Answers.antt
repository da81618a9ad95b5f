use Rattle.std.proofs.Common.{◌∷◌, [], sym, ap, ◌∙◌}
use Rattle.std.specs.Prelude.{encode_utf8_all}
use Rattle.std.proofs.lemmas.Str.{encodes-chars, IsUtf8-string_bytes}
use Rattle.texts.proofs.text.TextHash.hash.Goals as goal

pub returns : goal.returns
returns g c =
    let same = c.as_str.ensures.value ∙ sym (encodes-chars _ (IsUtf8-string_bytes c.self.inside.inner)) ∙ ap encode_utf8_all c.self.view_is in
    c.hash.ensures ∙ ap (λ bytes. g.H.Hasher.write (g.H.Hasher.write c.args.state.now bytes) (255 ∷ [])) same
