use Rattle.std.proofs.Common.{[], sym, ap, ◌∙◌}
use Rattle.std.specs.Prelude.{codes, nat_eq, encode_utf8_all}
use Rattle.std.specs.List.{ends_with}
use Rattle.std.proofs.lemmas.Bool.{cond-false}
use Rattle.std.proofs.lemmas.Str.Pattern.{ends_text}
use Rattle.sigv4.proofs.paths.final_slash.Goals as goal

pub returns-else-ends_with-clause-text : goal.returns-else-ends_with-clause-text
returns-else-ends_with-clause-text c =
    let test = ends_text c.ends_with.result (codes "/") c.as_str.result.now c.ends_with.ensures.cases in
    sym (cond-false (ends_with nat_eq (encode_utf8_all c.args.path.now) (codes "/")) (codes "/") []
    (ap (λ s. ends_with nat_eq s (codes "/")) (sym c.as_str.ensures.bytes) ∙ sym test ∙ c.if-ends_with.false))
