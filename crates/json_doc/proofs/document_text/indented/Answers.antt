use Rattle.std.proofs.Common.{◌++◌, sym, ap, ◌∙◌, subst}
use Rattle.std.specs.Prelude.{encode_utf8_all}
use Rattle.json_doc.specs.declared.layout.Layout.TheVariants.{Indented}
use Rattle.json_doc.specs.Indented.{indented_of}
use Rattle.json_doc.specs.Grammar.{Reads}
use Rattle.json_doc.proofs.ReadAgain.{text_reads}
use Rattle.json_doc.proofs.document_text.indented.Goals as goal

pub returns-clause-reads : goal.returns-clause-reads
returns-clause-reads c = λ deep.
    let doc = c.args.doc.now in
    let text = c.in_ok-write_doc.ensures.text ∙ ap (λ front. front ++ indented_of doc) c.new-text.ensures in
    subst (λ cs. Reads (encode_utf8_all cs) doc) (sym text) (text_reads Indented doc c.in_ok-write_doc.ensures.proper deep)
