use Rattle.std.proofs.Common.{◌+◌, ◌∷◌, ◌++◌, [], drop, replicate, sym, ◌∙◌}
use Rattle.std.specs.List.{flat_map}
use Rattle.std.proofs.lemmas.List.{at_drop_more}
use Rattle.out_format.proofs.Drawn.{border_more}
use Rattle.out_format.proofs.section.write_border.Goals as goal

pub loop-width-preserved : goal.loop-width-preserved
loop-width-preserved c =
    let widths = c.args.widths.now in
    let index = c.loop-width.width-index in
    let out = c.loop-width.out in
    border_more _ out c.write_times.new.out c.push_ascii.new.self (flat_map (λ w. replicate (w + 2) 45 ++ 43 ∷ []) (drop (index + 1) widths)) c.in_ok-write_times.ensures c.in_ok-push_ascii.ensures.ok
    ∙ sym (at_drop_more (λ ws. out ++ flat_map (λ w. replicate (w + 2) 45 ++ 43 ∷ []) ws) widths index 0 c.loop-width-test.true)
    ∙ c.loop-width.invariant
