use Rattle.std.proofs.Common.{ap, ◌∙◌}
use Rattle.std.specs.Str.{chars}
use Rattle.std.proofs.lemmas.Str.{chars-IsAscii}
use Rattle.base64.specs.Engines.{standard}
use Rattle.base64.specs.GeneralPurpose.{encode_of}
use Rattle.base64.proofs.EngineFacts.{IsAscii-encode_of}
use Rattle.value_texts.proofs.scalars.base64_text.Goals as goal

pub returns : goal.returns
returns c =
    let bytes = c.args.bytes.now in
    c.from_string.ensures ∙ ap chars c.in_ok-encode.ensures.text ∙ chars-IsAscii (encode_of standard bytes) (IsAscii-encode_of standard bytes)
