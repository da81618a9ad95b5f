use Rattle.std.proofs.Common.{◌≡◌, ◌∷◌, ◌++◌, [], ap, ◌∙◌, append_assoc}
use Rattle.std.proofs.lemmas.Fmt.{IsAscii-decimal}
use Rattle.std.proofs.lemmas.Str.{chars-IsAscii}
use Rattle.std.specs.Fmt.{decimal}
use Rattle.std.specs.Str.{chars}
use Rattle.rule_sets.proofs.reading.place_at.Goals as goal

pub returns : goal.returns
returns c =
    let plain : chars c.as_str.result.now ≡ decimal c.args.at =
    ap chars (c.as_str.ensures.value ∙ c.in_ok-digits.ensures.ok) ∙ chars-IsAscii (decimal c.args.at) (IsAscii-decimal c.args.at c.ranges.at.fits) in
    c.in_ok-push_str.ensures.ok ∙ ap (λ cs. c.push_ascii.new.self ++ cs) plain
    ∙ ap (λ m. m ++ decimal c.args.at) (c.in_ok-push_ascii.ensures.ok ∙ ap (λ m. m ++ 46 ∷ []) c.in_ok-made.ensures)
    ∙ append_assoc c.args.place.now (46 ∷ []) (decimal c.args.at)
