use Rattle.std.proofs.Common.{Ok, sym, ap, ◌∙◌}
use Rattle.std.specs.Str.{chars}
use Rattle.json_doc.specs.declared.doc.Doc as doc
use Rattle.json_doc.specs.declared.doc.Doc.TheViews.{out-Doc}
use Rattle.jmes_eval.proofs.TypeNames.{chars-type}
use Rattle.jmes_eval.proofs.arguments.of_doc.Goals as goal

pub returns-in_ok-from_str-in-Type : goal.returns-in_ok-from_str-in-Type
returns-in_ok-from_str-in-Type c = λ other.
    let text = c.in_ok-from_str-in-Type.ensures ∙ ap chars c.type_name.ensures ∙ chars-type (out-Doc c.args.doc.now) in
    rw c.in-Type.is (ap (λ t. Ok (doc.Str t)) (sym text))
