use Rattle.std.proofs.Common.{ap, sym, ◌∙◌}
use Rattle.std.specs.List.{list_any}
use Rattle.std.specs.Str.{bytes_eq}
use Rattle.service_model.proofs.Clashes.{none_taken, last_taken}
use Rattle.service_model.proofs.arguments.is_shared.Goals as goal

pub returns-then-not-argument : goal.returns-then-not-argument
returns-then-not-argument c =
    none_taken _ _ _ _ (sym c.contains.ensures ∙ c.if-contains.false) (sym c.contains-else-contains.ensures ∙ c.if-contains-2.false) c.if-not-argument.true

pub returns : goal.returns
returns c =
    c.contains-2.ensures ∙ ap (λ name. list_any (bytes_eq name) c.args.usage.now.names.keys) c.in_ok-negation.ensures
    ∙ last_taken _ _ _ _ (sym c.contains.ensures ∙ c.if-contains.false) (sym c.contains-else-contains.ensures ∙ c.if-contains-2.false) c.if-not-argument.false
