use Rattle.std.proofs.Common.{cond, sym, ap, ◌∙◌}
use Rattle.http_reply.specs.declared.kinds.Kind.TheVariants.{Malformed}
use Rattle.http_reply.specs.Kinds.{kind_by_number}
use Rattle.http_reply.proofs.KindLemmas.{kind_by_length-some}
use Rattle.http_reply.proofs.kinds.kind_by_length.Goals as goal

pub returns-then-are_copies-clause-kind : goal.returns-then-are_copies-clause-kind
returns-then-are_copies-clause-kind c =
    let known = kind_by_length-some _ c.in-Some.value.now (sym c.in-Some.ensures) in
    let test = sym c.are_copies.ensures ∙ c.if-are_copies.true in
    c.kind_by_number.ensures.kind ∙ sym (known ∙ ap (λ t. cond t (kind_by_number c.in-Some.value.now) Malformed) test)

pub returns-else-are_copies-clause-kind : goal.returns-else-are_copies-clause-kind
returns-else-are_copies-clause-kind c =
    let known = kind_by_length-some _ c.in-Some.value.now (sym c.in-Some.ensures) in
    let test = sym c.are_copies.ensures ∙ c.if-are_copies.false in
    sym (known ∙ ap (λ t. cond t (kind_by_number c.in-Some.value.now) Malformed) test)
