use Rattle.std.proofs.Common.{sym, ◌∙◌, lit<}
use Rattle.std.proofs.lemmas.Str.Pattern.{strip_prefix_char}
use Rattle.resp_parser.proofs.Wholes.{plus-none, plus-not, whole-read}
use Rattle.resp_parser.proofs.headers.whole_of.Goals as goal

pub returns-then-is_some : goal.returns-then-is_some
returns-then-is_some c =
    let bs = c.args.text.now in
    let cut = strip_prefix_char 43 bs c.strip_prefix.result c.strip_prefix.ensures.cases (lit< tt) in
    sym (plus-none bs c.strip_prefix.result cut (sym c.is_some.ensures ∙ c.if-is_some.true))

pub returns : goal.returns
returns c =
    let bs = c.args.text.now in
    let cut = strip_prefix_char 43 bs c.strip_prefix.result c.strip_prefix.ensures.cases (lit< tt) in
    c.ok.ensures.value ∙ whole-read bs c.parse.result c.parse.ensures.value.0 (plus-not bs c.strip_prefix.result cut (sym c.is_some.ensures ∙ c.if-is_some.false))
