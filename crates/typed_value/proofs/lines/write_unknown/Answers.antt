use Rattle.std.proofs.Common.{◌≤◌, ◌++◌, length, slice_get, sym, ap, ◌∙◌, append-nil, arith}
use Rattle.std.specs.Prelude.{codes}
use Rattle.std.proofs.lemmas.Option.{slice_get_past}
use Rattle.service_model.specs.Admission.{members_in_maybe}
use Rattle.typed_value.specs.Lines.{named, quoted, names_text}
use Rattle.typed_value.proofs.Behind.{six-behind}
use Rattle.typed_value.proofs.lines.write_unknown.Goals as goal

pub returns-in_ok-write_names : goal.returns-in_ok-write_names
returns-in_ok-write_names c =
    let shapes = c.args.model.now.shapes in
    let names = ap names_text (c.as_slice.ensures ∙ ap members_in_maybe (sym c.shape.ensures.at)) in
    c.in_ok-write_names.ensures ∙ ap (λ cs. c.push_ascii-3.new.self ++ cs) names
    ∙ six-behind c.args.out.now (codes "Unknown parameter in ") (named c.args.path.now) (codes ": ") (quoted c.args.name.now) (codes ", must be one of: ")
    (names_text (members_in_maybe (slice_get shapes c.args.id.0)))
    c.push_ascii.new.self c.write_path.new.out c.push_ascii-2.new.self c.write_quoted.new.out c.push_ascii-3.new.self
    c.in_ok-push_ascii.ensures.ok c.in_ok-write_path.ensures c.in_ok-push_ascii-2.ensures.ok c.in_ok-write_quoted.ensures c.in_ok-push_ascii-3.ensures.ok

pub returns-else-id-shape_count : goal.returns-else-id-shape_count
returns-else-id-shape_count c =
    let shapes = c.args.model.now.shapes in
    let past : length shapes ≤ c.args.id.0 = omega arith in
    let none = ap (λ o. names_text (members_in_maybe o)) (slice_get_past shapes c.args.id.0 past) in
    sym (append-nil c.push_ascii-3.new.self) ∙ ap (λ cs. c.push_ascii-3.new.self ++ cs) (sym none)
    ∙ six-behind c.args.out.now (codes "Unknown parameter in ") (named c.args.path.now) (codes ": ") (quoted c.args.name.now) (codes ", must be one of: ")
    (names_text (members_in_maybe (slice_get shapes c.args.id.0)))
    c.push_ascii.new.self c.write_path.new.out c.push_ascii-2.new.self c.write_quoted.new.out c.push_ascii-3.new.self
    c.in_ok-push_ascii.ensures.ok c.in_ok-write_path.ensures c.in_ok-push_ascii-2.ensures.ok c.in_ok-write_quoted.ensures c.in_ok-push_ascii-3.ensures.ok
