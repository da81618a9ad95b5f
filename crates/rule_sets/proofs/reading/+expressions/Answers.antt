use Rattle.std.proofs.Common.{◌≡◌, ◌<◌, Some, IfOk, refl, sym, ap, subst, ◌∙◌, arith, rules}
use Rattle.std.specs.Prelude.{codes}
use denote.Param.Weighed.{most}
use Rattle.json_doc.specs.declared.doc.Doc.{size-Doc, the_lemmas}
use Rattle.json_doc.specs.declared.doc.Doc.TheVariants as doc
use Rattle.texts.specs.Keys.{value_at}
use Rattle.rule_sets.specs.Rules.{expression_of}
use Rattle.rule_sets.proofs.ReadParts.{call-bare, call-here, call-none, call-some, reference-is}
use Rattle.rule_sets.proofs.Sizes.{size-Items, size-value}
use Rattle.rule_sets.proofs.reading.+expressions.Goals as goal

pub read_call-returns-in_default : goal.read_call-returns-in_default
read_call-returns-in_default t c = call-none c.args.fields.now (search rules)

pub read_call-read_expressions-requires : goal.read_call-read_expressions-requires
read_call-read_expressions-requires t c =
    let listed : value_at (codes "argv") c.args.fields.now ≡ Some (doc.Items c.in-Some-Items.arguments) = search rules in
    let found = size-value (codes "argv") c.args.fields.now (doc.Items c.in-Some-Items.arguments) listed in
    let items = size-Items c.in-Some-Items.arguments in
    let same : c.as_slice.result.now ≡ c.in-Some-Items.arguments = search rules in
    let size : most size-Doc c.as_slice.result.now < most (λ p. size-Doc p.value) c.args.fields.now =
    subst (λ ds. most size-Doc ds < most (λ p. size-Doc p.value) c.args.fields.now) (sym same) (omega arith) in
    (omega arith, tt)

pub read_call-returns-in_ok-arguments-in-Some-Items : goal.read_call-returns-in_ok-arguments-in-Some-Items
read_call-returns-in_ok-arguments-in-Some-Items t c =
    call-some c.args.fields.now c.in-Some.function c.in-Some-Items.arguments c.in_ok-arguments-in-Some-Items.arguments (search rules) (search (rules, the_lemmas)) (search rules)

pub read_call-returns-in_default-get : goal.read_call-returns-in_default-get
read_call-returns-in_default-get t c = call-bare c.args.fields.now (search (rules, the_lemmas))

pub read_expression-returns-in_ok-text_or_empty-in-Some : goal.read_expression-returns-in_ok-text_or_empty-in-Some
read_expression-returns-in_ok-text_or_empty-in-Some t c =
    reference-is c.in-Fields.fields c.in-Some.name.now c.in_ok-text_or_empty-in-Some.field-0 (sym (c.in-Some.ensures.ascii refl)) c.in_ok-text_or_empty-in-Some.ensures
    ∙ ap expression_of (sym c.in-Fields.is)

pub read_expression-returns-in-None : goal.read_expression-returns-in-None
read_expression-returns-in-None t c =
    subst (λ made. IfOk c.read_call.result (λ expression. expression ≡ made))
    (call-here c.in-Fields.fields (sym (c.in-None.ensures.ascii refl)) ∙ ap expression_of (sym c.in-Fields.is)) c.read_call.ensures
