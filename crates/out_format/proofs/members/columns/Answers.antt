use Rattle.std.proofs.Common.{◌+◌, ◌∙◌, drop, sym, ap}
use Rattle.std.specs.Prelude.{filter}
use Rattle.json_doc.specs.declared.doc.Doc.{out-Doc}
use Rattle.out_format.specs.Layers.{is_scalar}
use Rattle.std.specs.List.{flat_map}
use Rattle.texts.specs.Keys.{keys}
use Rattle.out_format.specs.Members.{all_placed}
use Rattle.out_format.specs.Borrowed.{members_of}
use Rattle.out_format.proofs.Placing.{scalar_fields, docs_more, columns-docs}
use Rattle.std.proofs.lemmas.List.{at_drop_all}
use Rattle.out_format.proofs.members.columns.Goals as goal

pub returns-clause-keys : goal.returns-clause-keys
returns-clause-keys c =
    let docs = c.args.docs.now in
    let members = members_of c.loop-doc.members.entries in
    ap keys (sym (at_drop_all (λ ds. all_placed members (flat_map scalar_fields ds)) docs c.loop-doc.doc-index c.loop-doc-test.false) ∙ c.loop-doc.invariant.due)
    ∙ columns-docs docs

pub loop-doc-preserved : goal.loop-doc-preserved
loop-doc-preserved c =
    let docs = c.args.docs.now in
    let item = c.doc-item.result in
    let index = c.loop-doc.doc-index in
    let members = members_of c.loop-doc.members.entries in
    let left = flat_map scalar_fields (drop (index + 1) docs) in
    let put = c.in_ok-put_scalars.ensures.placed
    ∙ ap (λ fields. all_placed members (filter (λ p. is_scalar (out-Doc p.value)) fields)) c.fields_of.ensures
    ∙ ap (λ d. all_placed members (scalar_fields d)) c.doc-item.is in
    record {
      keyed = c.in_ok-put_scalars.ensures.keyed;
      due = ap (λ ms. all_placed ms left) put ∙ sym (docs_more docs index item members c.loop-doc-test.true) ∙ c.loop-doc.invariant.due;
    }
