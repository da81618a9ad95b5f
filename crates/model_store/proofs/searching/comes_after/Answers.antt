use Rattle.std.proofs.Common.{inl, sym, ◌∙◌, subst}
use Rattle.texts.proofs.Ascending.{same_text, before_from_greater}
use Rattle.model_store.specs.Inside.{IsAfter}
use Rattle.model_store.specs.Versions.{name_of, IsUpTo}
use Rattle.model_store.proofs.searching.comes_after.Goals as goal

pub returns-in-Greater-clause-after : goal.returns-in-Greater-clause-after
returns-in-Greater-clause-after c = λ after.
    subst (λ newest. IsAfter (name_of newest) c.args.name.now) (sym c.in-Some.is)
    (before_from_greater c.args.name.now c.in-Some.version.name (sym c.cmp.ensures ∙ c.in-Greater.is))

pub returns-in-Equal-clause-up_to : goal.returns-in-Equal-clause-up_to
returns-in-Equal-clause-up_to c = λ up_to.
    subst (λ newest. IsUpTo (name_of newest) c.args.name.now) (sym c.in-Some.is)
    (inl (same_text c.args.name.now c.in-Some.version.name (sym c.cmp.ensures ∙ c.in-Equal.is)))
