use Rattle.std.proofs.Common.{◌≡◌, ◌++◌, ap, subst, ◌∙◌, append_assoc}
use Rattle.std.specs.Prelude.{OnOk, codes}
use Rattle.typed_value.specs.Lines.{named}
use Rattle.typed_value.proofs.lines.write_line.Goals as goal

pub returns-in_ok-push_ascii-in-Union : goal.returns-in_ok-push_ascii-in-Union
returns-in_ok-push_ascii-in-Union c =
    let path = named c.in-Union.path in
    let whole = ap (λ text. text ++ path) c.in_ok-push_ascii-in-Union.ensures.ok ∙ append_assoc c.args.out.now (codes "Invalid number of members in union ") path in
    rw c.in-Union.is (subst (λ text. OnOk c.write_path.result (c.write_path.new.out ≡ text)) whole c.write_path.ensures)
