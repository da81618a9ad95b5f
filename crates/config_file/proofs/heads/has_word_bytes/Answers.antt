use Rattle.std.proofs.Common.{rules}
use Rattle.std.proofs.lemmas.Iterator.Adapters.{YieldsList-from_bytes}
use Rattle.std.proofs.lemmas.Iterator.Search.{all_from_yields_List}
use borrow.Author.Tests.{tests}
use Rattle.config_file.specs.Lines.{is_word_byte}
use Rattle.config_file.proofs.heads.has_word_bytes.Goals as goal

pub returns : goal.returns
returns c = all_from_yields_List is_word_byte _ _ c.all.result c.all.ensures.ran
    (YieldsList-from_bytes c.args.text.now c.bytes.ensures.rest) (λ x b q k. search (rules, tests))
