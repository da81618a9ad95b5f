use Rattle.std.proofs.Common.{refl, lit<, Some, None}
use Rattle.std.proofs.lemmas.Str.Pattern.{strip_prefix_char}
use Rattle.texts.proofs.BlankEnds.{first_gone, some_first, none_first}
use Rattle.texts.proofs.blanks.strip_first_blank.Goals as goal

pub returns-in-Some-clause-some : goal.returns-in-Some-clause-some
returns-in-Some-clause-some c =
    let cut = strip_prefix_char 32 c.args.text.now (Some c.in-Some.rest) c.in-Some.ensures.cases (lit< tt) in
    (32, refl, first_gone 32 _ _ c.utf8.text (lit< tt) cut)

pub returns-in-None-clause-some : goal.returns-in-None-clause-some
returns-in-None-clause-some c =
    some_first 9 _ c.strip_prefix-in-None.result c.utf8.text (lit< tt) refl
    (strip_prefix_char 9 c.args.text.now c.strip_prefix-in-None.result c.strip_prefix-in-None.ensures.cases (lit< tt))

pub returns-in-None-clause-none : goal.returns-in-None-clause-none
returns-in-None-clause-none c =
    none_first _ c.strip_prefix-in-None.result c.utf8.text
    (strip_prefix_char 32 c.args.text.now None c.in-None.ensures.cases (lit< tt))
    (strip_prefix_char 9 c.args.text.now c.strip_prefix-in-None.result c.strip_prefix-in-None.ensures.cases (lit< tt))
