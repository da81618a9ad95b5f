use Rattle.std.proofs.Common.{◌++◌, [], map, ap, ◌∙◌}
use Rattle.std.specs.Prelude.{filter}
use Rattle.json_doc.proofs.Layouts.{bracketed}
use Rattle.json_doc.specs.Grammar.{put_all}
use Rattle.value_texts.specs.Documents.{given_fields, is_in_body}
use Rattle.value_texts.specs.Inside.{fields_text, spot_field}
use Rattle.value_texts.proofs.JsonParts.{compact-Fields}
use Rattle.value_texts.proofs.writing.push_members.Goals as goal

pub returns : goal.returns
returns c =
    let shapes = c.args.model.now.shapes in
    let fields = c.args.fields.now in
    let before = c.push.new.self in
    let due = put_all [] (given_fields shapes (filter (is_in_body c.args.is_json) c.args.members.now) fields) in
    let parts = c.in_ok-push_spots.ensures ∙ ap (λ spots. before ++ fields_text (map (spot_field shapes fields) spots)) c.as_slice.ensures.same
    ∙ ap (λ ps. before ++ fields_text ps) (c.in_ok-spots.ensures.values shapes) in
    let whole = bracketed c.args.out.now before c.push_spots.new.out (fields_text due) 123 125 c.in_ok-push.ensures.ok parts in
    rw (compact-Fields due) (rw whole at c.push-2.ensures.ok)
