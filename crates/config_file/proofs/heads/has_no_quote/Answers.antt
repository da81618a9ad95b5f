use Rattle.std.proofs.Common.{eqb, rules}
use Rattle.std.specs.Prelude.{not}
use Rattle.std.proofs.lemmas.Iterator.Adapters.{YieldsList-from_bytes}
use Rattle.std.proofs.lemmas.Iterator.Search.{all_from_yields_List}
use borrow.Author.Tests.{tests}
use Rattle.config_file.proofs.heads.has_no_quote.Goals as goal

pub returns : goal.returns
returns c = all_from_yields_List (λ b. not (eqb b 34)) _ _ c.all.result c.all.ensures.ran
    (YieldsList-from_bytes c.args.text.now c.bytes.ensures.rest) (λ x b q k. search (rules, tests))
