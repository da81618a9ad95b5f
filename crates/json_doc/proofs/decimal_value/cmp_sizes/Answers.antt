use Rattle.json_doc.proofs.DecimalOrder.{sizes_by_parts, sizes_by_wholes}
use Rattle.json_doc.proofs.decimal_value.cmp_sizes.Goals as goal

pub returns-then-a_whole-b_whole : goal.returns-then-a_whole-b_whole
returns-then-a_whole-b_whole c =
    let a = c.whole_and_part-a_whole in
    let b = c.whole_and_part-b_whole in
    sizes_by_parts c.args.a.now.magnitude c.args.b.now.magnitude c.args.a.now.scale c.args.b.now.scale a.result.0 a.result.1 b.result.0 b.result.1 a.ensures.value b.ensures.value a.ensures.below_one b.ensures.below_one
    c.cmp.result c.if-a_whole-b_whole.true c.cmp.ensures

pub returns : goal.returns
returns c =
    let a = c.whole_and_part-a_whole in
    let b = c.whole_and_part-b_whole in
    sizes_by_wholes c.args.a.now.magnitude c.args.b.now.magnitude c.args.a.now.scale c.args.b.now.scale a.result.0 a.result.1 b.result.0 b.result.1 a.ensures.value b.ensures.value a.ensures.below_one b.ensures.below_one
    c.cmp-2.result c.if-a_whole-b_whole.false c.cmp-2.ensures
