use Rattle.std.proofs.Common.{refl, lit<, Some, None}
use Rattle.std.proofs.lemmas.Str.Pattern.{strip_suffix_char}
use Rattle.texts.proofs.BlankEnds.{last_gone, some_last, none_last}
use Rattle.texts.proofs.blanks.strip_last_blank.Goals as goal

pub returns-in-Some-clause-some : goal.returns-in-Some-clause-some
returns-in-Some-clause-some c =
    let cut = strip_suffix_char 32 c.args.text.now (Some c.in-Some.rest) c.in-Some.ensures.cases (lit< tt) in
    (32, refl, last_gone 32 _ _ c.utf8.text (lit< tt) cut)

pub returns-in-None-clause-some : goal.returns-in-None-clause-some
returns-in-None-clause-some c =
    some_last 9 _ c.strip_suffix-in-None.result c.utf8.text (lit< tt) refl
    (strip_suffix_char 9 c.args.text.now c.strip_suffix-in-None.result c.strip_suffix-in-None.ensures.cases (lit< tt))

pub returns-in-None-clause-none : goal.returns-in-None-clause-none
returns-in-None-clause-none c =
    none_last _ c.strip_suffix-in-None.result c.utf8.text
    (strip_suffix_char 32 c.args.text.now None c.in-None.ensures.cases (lit< tt))
    (strip_suffix_char 9 c.args.text.now c.strip_suffix-in-None.result c.strip_suffix-in-None.ensures.cases (lit< tt))
