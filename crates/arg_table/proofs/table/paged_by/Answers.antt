use Rattle.std.proofs.Common.{◌++◌, bytes_eq, option_to_list, ap, sym, ◌∙◌}
use Rattle.std.specs.List.{list_any}
use Rattle.std.specs.Option.{option_copied}
use Rattle.arg_table.specs.Tables.{paged_by}
use Rattle.arg_table.proofs.Marking.{with_limit}
use Rattle.arg_table.proofs.table.paged_by.Goals as goal

pub returns : goal.returns
returns c = λ name.
    let row = c.in-Some.row.now in
    ap (list_any (bytes_eq name)) c.in_ok-insert.ensures.keys
    ∙ with_limit name c.in_ok-copy.field-0 c.in-Some-limit.limit c.in_ok-made.made.keys row.inputs c.in_ok-copy.ensures
    (c.in_ok-made.ensures name ∙ ap (list_any (bytes_eq name)) c.as_slice.ensures)
    ∙ sym (ap (λ r. list_any (bytes_eq name) (paged_by (option_copied r))) c.in-Some.is
    ∙ ap (λ limit. list_any (bytes_eq name) (row.inputs ++ option_to_list limit)) c.in-Some-limit.is)
