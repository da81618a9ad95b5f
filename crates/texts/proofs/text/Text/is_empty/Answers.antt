use Rattle.std.proofs.Common.{length, ap, arith}
use Rattle.std.specs.Prelude.{encode_utf8_all}
use Rattle.std.proofs.lemmas.Bool.Decides.{nat_tests}
use Rattle.texts.proofs.Texts.{encodes_none}
use Rattle.texts.proofs.text.Text.is_empty.Goals as goal

pub returns : goal.returns
returns c =
    let bytes = ap length c.as_str.ensures.bytes in (
      λ empty. encodes_none c.args.self.now (grind (arith, nat_tests, empty, bytes)),
      λ none. let same = ap (λ cs. length (encode_utf8_all cs)) none in grind (arith, nat_tests, same, bytes),
    )
