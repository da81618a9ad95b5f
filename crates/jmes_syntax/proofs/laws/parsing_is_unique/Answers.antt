use Rattle.std.proofs.Common.{Ok, encode_utf8_all}
use Rattle.jmes_syntax.proofs.GrammarOfTexts.{text_complete}
use Rattle.jmes_syntax.proofs.Texts.{scans_once, one_fault, no_fault}
use Rattle.jmes_syntax.proofs.laws.parsing_is_unique.Goals as goal

pub returns-clause-expression : goal.returns-clause-expression
returns-clause-expression c = λ text d e a b. let same = scans_once (encode_utf8_all text) (Ok d) (Ok e) (text_complete text d a) (text_complete text e b) in cc

pub returns-clause-no_fault : goal.returns-clause-no_fault
returns-clause-no_fault c = λ text e f a b. no_fault (encode_utf8_all text) e f (text_complete text e a) b

pub returns-clause-fault : goal.returns-clause-fault
returns-clause-fault c = λ text f g a b. one_fault (encode_utf8_all text) f g a b
