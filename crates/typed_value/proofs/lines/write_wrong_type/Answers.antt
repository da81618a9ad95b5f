use Rattle.std.proofs.Common.{◌≡◌, ◌++◌, ap, subst, ◌∙◌}
use Rattle.std.specs.Prelude.{OnOk, codes}
use Rattle.typed_value.specs.Lines.{named, kind_word}
use Rattle.typed_value.proofs.Behind.{four-behind}
use Rattle.typed_value.proofs.lines.write_wrong_type.Goals as goal

pub returns : goal.returns
returns c =
    let whole = four-behind c.args.out.now (codes "Invalid type for parameter ") (named c.args.path.now) (codes ", expected ") (kind_word c.args.kind)
    c.push_ascii.new.self c.write_path.new.out c.push_ascii-2.new.self c.in_ok-push_ascii.ensures.ok c.in_ok-write_path.ensures c.in_ok-push_ascii-2.ensures.ok in
    subst (λ text. OnOk c.push_ascii-3.result (c.push_ascii-3.new.self ≡ text)) (ap (λ word. c.push_ascii-2.new.self ++ word) c.kind_word.ensures.word ∙ whole) c.push_ascii-3.ensures.ok
