use Rattle.std.proofs.Common.{◌<◌, ◌^◌, ◌++◌, ◌∷◌, [], ap, ◌∙◌, arith, append_assoc}
use Rattle.std.specs.Fmt.{decimal}
use Rattle.std.specs.Str.{chars}
use Rattle.out_format.proofs.Literals.{chars-decimal}
use Rattle.out_format.proofs.paths.item_path.Goals as goal

pub returns : goal.returns
returns c =
    let place = c.args.place in
    let path = c.args.path.now in
    let small : place < 2 ^ 64 = omega arith in
    let digits = ap chars (c.as_str.ensures.value ∙ c.in_ok-digits.ensures.ok) ∙ chars-decimal place small in
    let opened = c.in_ok-push.ensures.ok ∙ ap (λ p. p ++ 91 ∷ []) c.in_ok-made.ensures in
    let numbered = c.in_ok-push_str.ensures.ok ∙ ap (λ ds. c.push.new.self ++ ds) digits ∙ ap (λ p. p ++ decimal place) opened in
    c.in_ok-push-2.ensures.ok ∙ ap (λ p. p ++ 93 ∷ []) numbered
    ∙ append_assoc (path ++ 91 ∷ []) (decimal place) (93 ∷ []) ∙ append_assoc path (91 ∷ []) (decimal place ++ 93 ∷ [])
