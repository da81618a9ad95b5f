use Rattle.std.proofs.Common.{◌≡◌, true, [], Ok, sym, ap, subst, ◌∙◌}
use Rattle.std.specs.Prelude.{is_some}
use Rattle.texts.specs.Calls.{Answers}
use Rattle.jmes_eval.specs.Answers.{is_memory, all_of}
use Rattle.jmes_eval.specs.Many.{merged_after}
use Rattle.jmes_syntax.specs.declared.function.Function.TheVariants.{Merge}
use Rattle.jmes_eval.specs.Meaning.{many_of}
use Rattle.jmes_eval.specs.Inside.{seen_values}
use Rattle.jmes_eval.proofs.ManyValues.{many-Merge, many-NotNull, many-other}
use Rattle.jmes_eval.proofs.arguments.of_many.Goals as goal

pub returns : goal.returns
returns c = many-other c.args.function (seen_values c.args.values.items) c.in_default.not-Merge c.in_default.not-NotNull

pub returns-in-Merge : goal.returns-in-Merge
returns-in-Merge c =
    let xs = seen_values c.args.values.items in
    let some : is_some (all_of (λ x. x) xs) ≡ true = ap (λ vs. is_some (all_of (λ x. x) (seen_values vs))) (sym c.as_slice.ensures.value) ∙ sym c.are_values.ensures ∙ c.if-not-are_values.false in
    let merged = subst (λ vs. Answers is_memory (λ x. x) c.merge.result (merged_after [] (seen_values vs))) c.as_slice-in-Merge.ensures.value c.merge.ensures in
    rw c.in-Merge.is (c.made.ensures (many_of Merge xs) (subst (λ w. Answers is_memory (λ x. x) c.merge.result w) (sym (many-Merge xs some)) merged))

pub returns-in-NotNull : goal.returns-in-NotNull
returns-in-NotNull c =
    let xs = seen_values c.args.values.items in
    let some : is_some (all_of (λ x. x) xs) ≡ true = ap (λ vs. is_some (all_of (λ x. x) (seen_values vs))) (sym c.as_slice.ensures.value) ∙ sym c.are_values.ensures ∙ c.if-not-are_values.false in
    rw c.in-NotNull.is (many-NotNull xs some ∙ ap Ok (sym c.not_null.ensures))
