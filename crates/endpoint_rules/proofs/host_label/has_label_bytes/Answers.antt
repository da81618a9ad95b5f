use Rattle.std.proofs.Common.{rules}
use Rattle.std.proofs.lemmas.Iterator.Adapters.{YieldsList-from_bytes}
use Rattle.std.proofs.lemmas.Iterator.Search.{all_from_yields_List}
use borrow.Author.Tests.{tests}
use Rattle.endpoint_rules.specs.HostLabels.{is_label_character}
use Rattle.endpoint_rules.proofs.host_label.has_label_bytes.Goals as goal

pub returns : goal.returns
returns c = all_from_yields_List is_label_character _ _ c.all.result c.all.ensures.ran
    (YieldsList-from_bytes c.args.text.now c.bytes.ensures.rest) (λ x b q k. search (rules, tests))
