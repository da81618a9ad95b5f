use Rattle.std.proofs.Common.{nat_eq, bytes_eq, if◌then◌else◌, Some, None, false, sym, ap, ◌∙◌}
use Rattle.std.specs.Cmp.Lexicographic.{pointwise}
use Rattle.indexmap.specs.IndexMap.{get}
use Rattle.service_model.specs.Arguments.{negation_of}
use Rattle.arg_table.specs.Tables.{meant_by}
use Rattle.arg_table.specs.Inside.{or_meant}
use Rattle.arg_table.proofs.Naming.{named_both, named_once}
use Rattle.arg_table.proofs.meaning.add_names.Goals as goal

pub returns-then-not-is_flag : goal.returns-then-not-is_flag
returns-then-not-is_flag c = λ name.
    let a = c.args.argument.now in let old = get (pointwise nat_eq) c.args.names.now name in
    c.in_ok-add_name.ensures name ∙ ap (λ n. or_meant old (if bytes_eq name n then Some c.meant_by.result else None)) c.in_ok-name.ensures
    ∙ ap (λ m. or_meant old (if bytes_eq name a.name then Some m else None)) c.meant_by.ensures
    ∙ named_once a name old (sym c.is_flag.ensures ∙ c.if-not-is_flag.true)

pub returns : goal.returns
returns c = λ name.
    let a = c.args.argument.now in let old = get (pointwise nat_eq) c.args.names.now name in
    c.in_ok-add_name-2.ensures name
    ∙ ap (λ x. or_meant x (if bytes_eq name c.in_ok-negation.negation then Some c.meant_by-2.result else None)) (c.in_ok-add_name.ensures name
    ∙ ap (λ n. or_meant old (if bytes_eq name n then Some c.meant_by.result else None)) c.in_ok-name.ensures
    ∙ ap (λ m. or_meant old (if bytes_eq name a.name then Some m else None)) c.meant_by.ensures)
    ∙ ap (λ n. or_meant (or_meant old (if bytes_eq name a.name then Some (meant_by a false) else None)) (if bytes_eq name n then Some c.meant_by-2.result else None)) c.in_ok-negation.ensures
    ∙ ap (λ m. or_meant (or_meant old (if bytes_eq name a.name then Some (meant_by a false) else None)) (if bytes_eq name (negation_of a.name) then Some m else None)) c.meant_by-2.ensures
    ∙ named_both a name old (sym c.is_flag.ensures ∙ c.if-not-is_flag.false)
