use Rattle.std.proofs.Common.{◌≡◌, refl, rules}
use Rattle.json_doc.specs.DecimalValue.{signed}
use Rattle.json_doc.specs.declared.decimal.Decimal.{Decimal}
use Rattle.json_doc.specs.declared.doc.Doc.{out-Doc, the_lemmas}
use Rattle.json_doc.specs.declared.doc.Doc.TheVariants.{Number}
use Rattle.json_doc.specs.declared.doc.Doc.TheOpen.{Doc-F}
use Rattle.typed_value.proofs.Outer.{out-Int}
use Rattle.typed_value.proofs.wire.to_doc.Goals as goal

out-Number : (n : Decimal) → out-Doc (Number n) ≡ Doc-F.Number n
out-Number n = search (rules, the_lemmas)

pub returns-in-Int : goal.returns-in-Int
returns-in-Int c =
    let value : signed c.of.result.is_negative c.of.result.magnitude ≡ c.in-Int.n = search rules in
    rw (c.in-Int.is, out-Int c.in-Int.n, out-Number c.of.result) (c.of.result, refl, value, c.of.ensures.whole)
