use Rattle.std.proofs.Common.{rules, sym, ap, ◌∙◌}
use Rattle.std.specs.Prelude.{not}
use Rattle.std.proofs.lemmas.Iterator.{YieldsList-from_chars}
use Rattle.std.proofs.lemmas.Iterator.Search.{all_from_yields_List}
use borrow.Author.Tests.{tests}
use Rattle.rule_terms.specs.Characters.{is_small}
use Rattle.rule_terms.proofs.MadeTexts.{made_of, made_of_none}
use Rattle.rule_terms.proofs.characters.are_small.Goals as goal

pub returns-then-not-is_empty : goal.returns-then-not-is_empty
returns-then-not-is_empty c =
    made_of is_small c.args.text.now c.all.result c.utf8.text (sym c.is_empty.ensures ∙ c.if-not-is_empty.true)
    (all_from_yields_List is_small _ _ c.all.result c.all.ensures.ran
    (YieldsList-from_chars c.args.text.now c.utf8.text c.chars.ensures.rest) (λ x b q k. search (rules, tests)))

pub returns-else-not-is_empty : goal.returns-else-not-is_empty
returns-else-not-is_empty c =
    ap not c.if-not-is_empty.false ∙ made_of_none is_small c.args.text.now (sym c.is_empty.ensures ∙ c.if-not-is_empty.false)
