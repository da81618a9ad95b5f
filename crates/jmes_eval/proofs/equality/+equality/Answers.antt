use Rattle.std.proofs.Common.{◌≡◌, length, map, sym, ◌∙◌, arith}
use Rattle.std.proofs.lemmas.Bool.Decides.{nat_tests}
use Rattle.jmes_eval.specs.Equality.{same}
use Rattle.jmes_eval.proofs.SamePairs.{same-Fields, each_same-lengths, length-tests}
use Rattle.jmes_eval.proofs.equality.+equality.Goals as goal

pub same-returns-then-len : goal.same-returns-then-len
same-returns-then-len t c =
    let ps = c.in-Fields-Fields.a in
    let ds = c.in-Fields-Fields.b in
    let e = same-Fields ps ds in
    let lens : length ps ≡ length ds = sym c.len.ensures ∙ c.if-len.true ∙ c.len-in-Fields-Fields.ensures in
    rw (c.in-Fields-Fields.is-0, c.in-Fields-Fields.is-1, e, lens) (grind (arith, nat_tests))

pub same-returns-else-len : goal.same-returns-else-len
same-returns-else-len t c =
    let ps = c.in-Fields-Fields.a in
    let ds = c.in-Fields-Fields.b in
    let e = same-Fields ps ds in
    rw (c.in-Fields-Fields.is-0, c.in-Fields-Fields.is-1, e) (grind (arith, nat_tests))

pub same_items-returns-then-a-b : goal.same_items-returns-then-a-b
same_items-returns-then-a-b t c =
    sym (each_same-lengths (map same c.args.a.now) c.args.b.now (λ e. c.if-a-b.true (sym (length-tests c.args.a.now) ∙ e)))
