use Rattle.std.proofs.lemmas.Str.{IsUtf8-string_bytes}
use Rattle.texts.proofs.Texts.{bytes_eq-chars}
use Rattle.texts.proofs.text.TextPartialEq.eq.Goals as goal

pub returns : goal.returns
returns c =
    let a = c.self.inside.inner in
    let b = c.other.inside.inner in
    let same = bytes_eq-chars _ _ (IsUtf8-string_bytes a) (IsUtf8-string_bytes b) in
    rw (c.eq.ensures, c.as_str.ensures.value, c.as_str-2.ensures.value, same, c.self.view_is, c.other.view_is)
