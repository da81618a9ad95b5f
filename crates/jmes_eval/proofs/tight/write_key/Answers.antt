use Rattle.std.proofs.Common.{◌≡◌, ◌++◌, sym, ap, ◌∙◌, arith}
use Rattle.std.proofs.lemmas.Grind.{common_steps}
use Rattle.json_doc.specs.Compact.{compact_of}
use Rattle.json_doc.specs.Escapes.{quoted}
use Rattle.json_doc.specs.declared.doc.Doc.TheVariants.{Str}
use Rattle.json_doc.specs.declared.layout.Layout.TheVariants.{Compact}
use Rattle.json_doc.proofs.Layouts.{text_at-Str}
use Rattle.jmes_eval.proofs.tight.write_key.Goals as goal

pub returns : goal.returns
returns c =
    let key : c.push_quoted.new.out ≡ c.args.out.now ++ compact_of (Str c.args.key.now) = c.in_ok-push_quoted.ensures ∙ ap (λ k. c.args.out.now ++ quoted Compact k) c.as_str.ensures.value ∙ ap (λ t. c.args.out.now ++ t) (sym (text_at-Str Compact 0 c.args.key.now)) in
    grind (arith, common_steps, key)
