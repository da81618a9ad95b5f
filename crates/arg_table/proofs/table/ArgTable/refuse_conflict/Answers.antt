use Rattle.std.proofs.Common.{if◌then◌else◌, None, Err, option_map, ap, sym, ◌∙◌}
use Rattle.std.specs.Option.{option_copied}
use Rattle.std.specs.Str.{chars}
use Rattle.arg_table.specs.declared.fault.UsageFault.TheVariants.{PaginateConflict}
use Rattle.arg_table.specs.Lines.{no_conflict}
use Rattle.arg_table.proofs.table.ArgTable.refuse_conflict.Goals as goal

pub returns-then-has_conflict : goal.returns-then-has_conflict
returns-then-has_conflict c =
    ap (λ b. no_conflict (if b then option_map chars (option_copied c.args.option) else None)) (sym c.has_conflict.ensures ∙ c.if-has_conflict.true)
    ∙ ap (λ o. no_conflict (option_map chars (option_copied o))) c.in-Some.is
    ∙ ap (λ t. Err (PaginateConflict t)) (sym c.in_ok-from_str.ensures)
