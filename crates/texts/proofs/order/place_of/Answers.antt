use Rattle.std.proofs.Common.{sym, ◌∙◌, subst}
use Rattle.std.proofs.lemmas.List.{get_or_default}
use Rattle.std.proofs.lemmas.List.Elements.{All-more}
use Rattle.texts.specs.Order.{IsBefore}
use Rattle.texts.proofs.Ascending.{same_text, before_from_greater, all_from}
use Rattle.texts.proofs.order.place_of.Goals as goal

pub returns-in-Equal-clause-there : goal.returns-in-Equal-clause-there
returns-in-Equal-clause-there c =
    let same = same_text c.index-texts-at.result c.args.text.now (sym c.cmp.ensures ∙ c.in-Equal.is) in
    (c.loop-at.at, c.loop-at-test.true, get_or_default _ _ _ _ c.loop-at-test.true ∙ sym c.index-texts-at.is ∙ same)

pub returns-in-Greater-clause-below : goal.returns-in-Greater-clause-below
returns-in-Greater-clause-below c =
    let before = before_from_greater c.index-texts-at.result c.args.text.now (sym c.cmp.ensures ∙ c.in-Greater.is) in
    all_from _ _ c.index-texts-at.result c.loop-at.at c.requires c.loop-at-test.true c.index-texts-at.is before

pub loop-at-preserved : goal.loop-at-preserved
loop-at-preserved c =
    let text = c.args.text.now in
    let before : IsBefore c.index-texts-at.result text = sym c.cmp.ensures ∙ c.in-Less.is in
    All-more (λ other. IsBefore other text) _ c.loop-at.at c.index-texts-at.result c.loop-at-test.true c.loop-at.invariant (subst (λ other. IsBefore other text) c.index-texts-at.is before)
