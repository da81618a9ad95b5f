use Rattle.std.proofs.Common.{◌≡◌, ◌++◌, sym, ap, subst, ◌∙◌}
use Rattle.std.specs.Prelude.{OnOk}
use Rattle.std.proofs.lemmas.Int.{to_z-of_z}
use mir.Syntax.{w64}
use Rattle.json_doc.specs.Compact.{compact_of}
use Rattle.json_doc.specs.DecimalValue.{signed}
use Rattle.json_doc.specs.declared.doc.Doc.{Doc}
use Rattle.json_doc.specs.declared.doc.Doc.TheVariants.{Number}
use Rattle.value_texts.specs.WholeNumbers.{whole_document}
use Rattle.value_texts.proofs.JsonParts.{whole-document}
use Rattle.value_texts.proofs.writing.push_number.Goals as goal

pub returns : goal.returns
returns c =
    let d = c.of.result in
    let is : Number d ≡ whole_document c.args.n = sym (whole-document d c.of.ensures.whole) ∙ ap whole_document (c.of.ensures.value ∙ to_z-of_z w64 c.args.n c.ranges.n) in
    subst (λ doc. OnOk c.push_compact.result (c.push_compact.new.out ≡ c.args.out.now ++ compact_of doc)) is c.push_compact.ensures
