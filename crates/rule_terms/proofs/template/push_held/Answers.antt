use Rattle.std.proofs.Common.{◌++◌, sym, ap, ◌∙◌, subst}
use Rattle.rule_terms.specs.Templates.{pieces_of, held, IsStand}
use Rattle.rule_terms.proofs.Pieces.{left_at_end}
use Rattle.rule_terms.proofs.template.push_held.Goals as goal

pub returns-in_ok-push_open-in-Opened : goal.returns-in_ok-push_open-in-Opened
returns-in_ok-push_open-in-Opened c =
    c.in_ok-push_open-in-Opened.ensures
    ∙ ap (λ ps. c.args.pieces.now ++ ps) (left_at_end c.in-Opened.words (subst IsStand c.in-Opened.is c.requires))
    ∙ ap (λ s. c.args.pieces.now ++ pieces_of (held s)) (sym c.in-Opened.is)
