use Rattle.std.proofs.Common.{◌++◌, sym, ap, ◌∙◌, append_assoc, append-nil}
use Rattle.std.proofs.lemmas.Str.{IsUtf8-past_char, chars_past_char}
use Rattle.std.proofs.StrCases.{chars_of_empty}
use Rattle.std.specs.List.{flat_map}
use Rattle.std.specs.Str.{chars}
use Rattle.std.specs.Str.Iter.{chars_rest}
use Rattle.serializer.specs.HeaderTexts.{quoted_character}
use Rattle.serializer.proofs.header_lists.push_marked.Goals as goal

pub loop-c-preserved : goal.loop-c-preserved
loop-c-preserved c =
    let utf8 = c.loop-c.invariant.utf8 in
    let seam = c.in-Some.ensures.steps.0 in
    let out = c.loop-c.out in
    let rest = flat_map quoted_character (chars (chars_rest c.next.new.self)) in
    record {
      utf8 = IsUtf8-past_char _ _ _ utf8 seam;
      due = ap (λ s. s ++ rest) c.in_ok-push_character.ensures ∙ append_assoc out (quoted_character c.in-Some.c) rest
          ∙ ap (λ cs. out ++ flat_map quoted_character cs) (sym (chars_past_char _ _ _ utf8 seam)) ∙ c.loop-c.invariant.due;
    }

pub returns : goal.returns
returns c =
    let nil = chars_of_empty _ c.in-None.ensures.steps.0.0 in
    sym (append-nil c.loop-c.out) ∙ ap (λ cs. c.loop-c.out ++ flat_map quoted_character cs) (sym nil) ∙ c.loop-c.invariant.due
