use Rattle.std.proofs.Common.{◌<◌, ◌^◌, ◌++◌, ◌∷◌, [], ap, ◌∙◌, arith}
use Rattle.std.specs.Fmt.{decimal}
use Rattle.std.specs.Str.{chars}
use Rattle.shape_values.proofs.Literals.{chars-decimal}
use Rattle.shape_values.proofs.paths.item_path.Goals as goal

pub returns : goal.returns
returns c =
    let small : c.args.at < 2 ^ 64 = omega arith in
    let digits = ap chars (c.as_str.ensures.value ∙ c.in_ok-format.ensures.ok) ∙ chars-decimal c.args.at small in
    let opened = c.in_ok-push.ensures.ok ∙ ap (λ p. p ++ 91 ∷ []) c.new-made.ensures in
    let numbered = c.in_ok-push_str.ensures.ok ∙ ap (λ ds. c.push.new.self ++ ds) digits ∙ ap (λ p. p ++ decimal c.args.at) opened in
    let closed = c.in_ok-push-2.ensures.ok ∙ ap (λ p. p ++ 93 ∷ []) numbered in
    c.in_ok-push_str-2.ensures.ok ∙ ap (λ cs. c.push-2.new.self ++ cs) c.as_str-2.ensures.value ∙ ap (λ p. p ++ c.args.path.now) closed
