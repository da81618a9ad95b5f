use Rattle.std.proofs.Common.{◌≡◌, ◌+◌, ◌<◌, true, length, set, take, sym, ap, subst, ◌∙◌, arith, length-set}
use Rattle.std.specs.List.{All}
use Rattle.service_model.proofs.Refusals.{HasMark, known_here, marked_more, marked_same, marked_all}
use Rattle.service_model.proofs.admission.input_marks.Goals as goal
use Rattle.service_model.proofs.admission.input_marks.Goals.{in-Some, in_default}

pub loop-row-preserved : goal.loop-row-preserved
loop-row-preserved c =
    let rows = c.args.rows.now in let i = c.loop-row.row-index in let row = c.row-item.result in
    elim c.match-row.branch [
      | in-Some w ↦ (
          let items : c.match-row.marks.items ≡ set c.loop-row.marks.items w.in-Some.id.0 true = ap (λ marks. marks.items) w.marks-is in
          let known : w.in-Some.id.0 < length c.loop-row.marks.items =
          omega (arith, known_here rows c.args.count i row w.in-Some.id c.loop-row-test.true c.row-item.is w.in-Some.is c.requires, c.loop-row.invariant.size) in
          record {
            size = ap length items ∙ length-set c.loop-row.marks.items w.in-Some.id.0 true ∙ c.loop-row.invariant.size;
            marked = subst (λ marks. All (HasMark marks) (take (i + 1) rows)) (sym items)
                (marked_more c.loop-row.marks.items rows i row w.in-Some.id c.loop-row-test.true c.row-item.is w.in-Some.is known c.loop-row.invariant.marked);
          })
      | in_default w ↦ (
          let items : c.match-row.marks.items ≡ c.loop-row.marks.items = ap (λ marks. marks.items) w.marks-is in
          record {
            size = ap length items ∙ c.loop-row.invariant.size;
            marked = subst (λ marks. All (HasMark marks) (take (i + 1) rows)) (sym items)
                (marked_same c.loop-row.marks.items rows i row c.loop-row-test.true c.row-item.is w.in_default.is c.loop-row.invariant.marked);
          })
    ]

pub returns-clause-marked : goal.returns-clause-marked
returns-clause-marked c = marked_all c.loop-row.marks.items c.args.rows.now c.loop-row.row-index c.loop-row-test.false c.loop-row.invariant.marked
