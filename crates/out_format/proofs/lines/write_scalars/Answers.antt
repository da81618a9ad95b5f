use Rattle.std.proofs.Common.{◌++◌, ◌∷◌, [], Some, map, ap, ◌∙◌}
use Rattle.std.specs.List.{flat_map}
use Rattle.out_format.specs.Layers.{layer_of}
use Rattle.out_format.specs.Text.{behind_key, line_text, texts_of}
use Rattle.out_format.proofs.TextParts.{each_line}
use Rattle.out_format.proofs.lines.write_scalars.Goals as goal

pub returns-in-Some : goal.returns-in-Some
returns-in-Some c =
    let key = c.in-Some.key.now in
    let out = c.args.out.now in
    let all = ap (λ cells. out ++ flat_map (λ cell. line_text (behind_key (Some key) (cell ∷ []))) cells) (c.as_slice.ensures ∙ c.in_ok-values.ensures)
    ∙ ap (λ cs. out ++ cs) (each_line key (texts_of (map layer_of c.args.docs.now))) in
    rw c.in-Some.is (rw all at c.write_each.ensures)
