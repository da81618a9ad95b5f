use Rattle.std.proofs.Common.{◌≡◌, subst}
use Rattle.std.specs.Prelude.{OnOk, codes}
use Rattle.typed_value.specs.Lines.{named, quoted}
use Rattle.typed_value.proofs.Behind.{four-behind}
use Rattle.typed_value.proofs.lines.write_missing.Goals as goal

pub returns : goal.returns
returns c =
    let whole = four-behind c.args.out.now (codes "Missing required parameter in ") (named c.args.path.now) (codes ": ") (quoted c.args.name.now)
    c.push_ascii.new.self c.write_path.new.out c.push_ascii-2.new.self c.in_ok-push_ascii.ensures.ok c.in_ok-write_path.ensures c.in_ok-push_ascii-2.ensures.ok in
    subst (λ text. OnOk c.write_quoted.result (c.write_quoted.new.out ≡ text)) whole c.write_quoted.ensures
