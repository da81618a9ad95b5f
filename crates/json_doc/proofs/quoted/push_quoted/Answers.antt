use Rattle.std.proofs.Common.{◌++◌, ◌∷◌, [], length, take, drop, sym, ap, ◌∙◌}
use Rattle.std.specs.List.{flat_map, prefix_len}
use Rattle.std.specs.Str.{chars}
use Rattle.json_doc.specs.Escapes.{escaped}
use Rattle.json_doc.specs.Plain.{is_plain}
use Rattle.json_doc.proofs.Plain.{IsCharBoundary-run, escaped-turn, escaped-last, between_quotes}
use Rattle.json_doc.proofs.quoted.push_quoted.Goals as goal

pub split_at-requires : goal.split_at-requires
split_at-requires c = rw (c.plain_len.ensures, c.as_bytes.ensures.value) (IsCharBoundary-run _ c.runs.invariant.0)

pub returns-in_default : goal.returns-in_default
returns-in_default c =
    let bs = c.runs.rest.now in
    let n = c.plain_len.ensures ∙ ap (prefix_len is_plain) c.as_bytes.ensures.value in
    let front = c.split_at.ensures.front ∙ ap (λ k. take k bs) n in
    let back = c.split_at.ensures.back ∙ ap (λ k. drop k bs) n in
    let none = ap length (sym c.chars-others.ensures.rest) ∙ c.in_default.ensures.steps.0.0 in
    let last = escaped-last bs c.args.layout _ _ _ _ c.runs.invariant.0 front back none c.in_ok-push_str.ensures.ok in
    let inner = flat_map (escaped c.args.layout) (chars c.args.text.now) in
    let whole = ap (λ cs. cs ++ 34 ∷ []) (last ∙ c.runs.invariant.1) ∙ between_quotes c.args.out.now inner in
    rw whole at c.push-in_default.ensures.ok

pub runs-preserved : goal.runs-preserved
runs-preserved c =
    let bs = c.runs.rest.now in
    let n = c.plain_len.ensures ∙ ap (prefix_len is_plain) c.as_bytes.ensures.value in
    let front = c.split_at.ensures.front ∙ ap (λ k. take k bs) n in
    let back = c.split_at.ensures.back ∙ ap (λ k. drop k bs) n in
    let turn = escaped-turn bs c.args.layout _ _ _ _ _ _ _ c.runs.invariant.0 front back (sym c.chars-others.ensures.rest ∙ c.in-Some.ensures.steps.0) c.in_ok-push_str.ensures.ok c.in_ok-write_escaped.ensures in
    (c.as_str-rest.utf8, rw c.as_str-rest.ensures (turn ∙ c.runs.invariant.1))
