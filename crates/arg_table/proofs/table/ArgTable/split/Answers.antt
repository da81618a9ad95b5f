use Rattle.std.proofs.Common.{Ok, ap, sym, ◌∙◌}
use Rattle.std.proofs.lemmas.Result.{err_from_is_err_and}
use Rattle.std.specs.Option.{option_copied}
use Rattle.arg_table.specs.Faults.{is_memory}
use Rattle.arg_table.specs.Given.{given_in}
use Rattle.arg_table.specs.Lines.{first_paging, missing_of, no_missing}
use Rattle.arg_table.proofs.Splitting.{conflict_told, not_apart, for_reason, whole_line}
use Rattle.arg_table.proofs.table.ArgTable.split.Goals as goal

pub returns-in_err-refuse_conflict : goal.returns-in_err-refuse_conflict
returns-in_err-refuse_conflict c =
    let t = c.args.self.now in let h = c.args.head.now in let gs = c.in_ok-given.given.items in
    let p = err_from_is_err_and c.from_residual-in_err-refuse_conflict.result c.from_residual-in_err-refuse_conflict.ensures.1 in
    rw (p.1, p.2) (for_reason (is_memory c.in_err-refuse_conflict.field-0.0) (λ fails.
    not_apart t h gs (ap (given_in t h.wait) (sym c.as_slice.ensures) ∙ c.in_ok-given.ensures) c.in_err-refuse_conflict.field-0.0
    (conflict_told t h.paginate gs c.in_ok-gathered.gathered.line (option_copied c.first_paging-option.result)
    (c.first_paging-option.ensures ∙ ap first_paging c.as_slice-2.ensures.value) c.in_ok-gathered.ensures.line ∙ fails)) c.in_err-refuse_conflict.ensures)

pub returns : goal.returns
returns c =
    let t = c.args.self.now in let h = c.args.head.now in let gs = c.in_ok-given.given.items in
    whole_line t h gs (ap (given_in t h.wait) (sym c.as_slice.ensures) ∙ c.in_ok-given.ensures)
    (conflict_told t h.paginate gs c.in_ok-gathered.gathered.line (option_copied c.first_paging-option.result)
    (c.first_paging-option.ensures ∙ ap first_paging c.as_slice-2.ensures.value) c.in_ok-gathered.ensures.line ∙ c.in_ok-refuse_conflict.ensures)
    (ap (λ l. no_missing (missing_of t l)) (sym c.in_ok-gathered.ensures.line) ∙ c.in_ok-refuse_missing.ensures)
    ∙ ap Ok (sym c.in_ok-gathered.ensures.line)
