use Rattle.std.proofs.Common.{◌≡◌, ◌++◌, [], ◌∷◌, map, append_assoc, sym, ap, ◌∙◌}
use Rattle.texts.specs.Keys.{keys}
use Rattle.out_format.specs.Borrowed.{members_of, with_text}
use Rattle.out_format.specs.Members.{cell_of, cell_at}
use Rattle.out_format.proofs.Placing.{text_at}
use Rattle.out_format.proofs.members.cells.Goals as goal

pub loop-column-preserved : goal.loop-column-preserved
loop-column-preserved c =
    let members = members_of c.args.members.now.entries in
    let cell_for = cell_at (map with_text members) in
    let key = c.in-Some.column.now.now.key in
    let left = map cell_for (keys (members_of c.next.new.self)) in
    let made : c.in_ok-cell.field-0 ≡ cell_for key = c.in_ok-cell.ensures ∙ ap cell_of (text_at key members c.member.result c.member.ensures) in
    let order = ap (λ es. map cell_for (keys (members_of es))) c.in-Some.ensures.steps in
    ap (λ cs. cs ++ left) (c.in_ok-push.ensures.ok ∙ ap (λ cell. c.loop-column.cells ++ cell ∷ []) made)
    ∙ append_assoc c.loop-column.cells (cell_for key ∷ []) left
    ∙ ap (λ cs. c.loop-column.cells ++ cs) (sym order)
    ∙ c.loop-column.invariant
