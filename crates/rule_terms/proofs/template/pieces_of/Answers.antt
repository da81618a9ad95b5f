use Rattle.std.proofs.Common.{◌++◌, sym, ap, ◌∙◌, append-nil}
use Rattle.std.proofs.lemmas.Str.{IsUtf8-past_char, chars_past_char}
use Rattle.std.proofs.StrCases.{chars_of_empty}
use Rattle.std.specs.Str.{chars}
use Rattle.std.specs.Str.Iter.{chars_rest}
use Rattle.rule_terms.specs.Templates.{pieces_of, held}
use Rattle.rule_terms.proofs.Pieces.{goes_further}
use Rattle.rule_terms.proofs.template.pieces_of.Goals as goal

pub loop-c-preserved : goal.loop-c-preserved
loop-c-preserved c =
    let utf8 = c.loop-c.invariant.0 in
    let seam = c.in-Some.ensures.steps.0 in (
      IsUtf8-past_char _ _ _ utf8 seam,
      c.in_ok-stand.ensures.1,
      goes_further c.loop-c.pieces c.behind.new.pieces c.loop-c.stand c.in_ok-stand.stand c.in-Some.c _ (chars (chars_rest c.next.new.self)) _ c.in_ok-stand.ensures (chars_past_char _ _ _ utf8 seam) c.loop-c.invariant.2,
    )

pub returns : goal.returns
returns c =
    let nil = chars_of_empty _ c.in-None.ensures.steps.0.0 in
    c.in_ok-push_held.ensures ∙ ap (λ cs. c.loop-c.pieces ++ pieces_of cs) (sym (append-nil (held c.loop-c.stand)))
    ∙ ap (λ cs. c.loop-c.pieces ++ pieces_of (held c.loop-c.stand ++ cs)) (sym nil) ∙ c.loop-c.invariant.2
