use Rattle.std.proofs.Common.{◌≡◌, ◌+◌, true, false, if◌then◌else◌, length, arith, [], Ok, Err, sym, ap, subst}
use Rattle.std.specs.Prelude.{IfOk, IfErr}
use Rattle.std.proofs.lemmas.Result.{err_from_is_err_and}
use Rattle.jmes_syntax.specs.declared.chains.Link.TheVariants as link
use Rattle.jmes_syntax.specs.declared.expr.Step.TheVariants as step
use Rattle.jmes_syntax.specs.declared.reader.Level.TheVariants as level
use Rattle.jmes_syntax.specs.declared.stop.Stop.TheVariants.{Arity}
use Rattle.jmes_syntax.specs.declared.token.Mark.TheVariants as mark
use Rattle.jmes_syntax.specs.Functions.{arity_of}
use Rattle.jmes_syntax.specs.Reading.{Stops, made}
use Rattle.texts.specs.Calls.{◌>>=◌}
use Rattle.jmes_syntax.specs.Scan.{linking, comparator_at, Joined, Side, Sides, Comparison, Comparisons, OperandAt, ChainAt, Links, LinkAt, First, Part, Named, Enclosed, Items, MoreItems, Members, MoreMembers, Arguments, MoreArguments, ArgumentAt}
use Rattle.jmes_syntax.specs.Trees.{operand, takes}
use Rattle.jmes_syntax.proofs.Lengths.{behind-lt, past-lt, key_at-le, shorter-at, comparator_at-shorter, joined-within, side-within, operand-within, argument-within, link-within}
use Rattle.jmes_syntax.proofs.Stopping.{weaker, all_stop, ok_weaker, err_weaker}
use Rattle.jmes_syntax.proofs.reader.+read.Goals as goal

pub read_joined-returns-in_err-side-clause-fault : goal.read_joined-returns-in_err-side-clause-fault
read_joined-returns-in_err-side-clause-fault t c =
    let p = err_from_is_err_and c.from_residual.result c.from_residual.ensures.1 in
    rw (p.1, p.2) (weaker _ (λ s. Joined c.args.level c.args.depth c.args.tokens.now (Err s)) _ (λ s h. Joined.sides (c.loop-sides.invariant _ (Sides.bad_side h))) c.in_err-side.ensures.fault)

pub read_joined-returns-in-None-clause-read : goal.read_joined-returns-in-None-clause-read
read_joined-returns-in-None-clause-read t c =
    rw (c.one_of.ensures, c.in_ok-push.ensures.ok) (Joined.sides (c.loop-sides.invariant _ (Sides.last_side c.in_ok-side.ensures.read (rw c.mark_of.ensures at c.in-None.ensures))))

pub read_joined-loop-sides-smaller : goal.read_joined-loop-sides-smaller
read_joined-loop-sides-smaller t c = omega (arith, side-within c.in_ok-side.ensures.read, behind-lt c.mark_of.result c.in_ok-side.after.now c.in-Some.more.now c.in-Some.ensures)

pub read_joined-loop-sides-preserved : goal.read_joined-loop-sides-preserved
read_joined-loop-sides-preserved t c = λ o rest.
    c.loop-sides.invariant o (Sides.more_sides c.in_ok-side.ensures.read (rw c.mark_of.ensures at c.in-Some.ensures) (rw c.in_ok-push.ensures.ok at rest))

pub read_side-returns-in-Pipe-clause-read : goal.read_side-returns-in-Pipe-clause-read
read_side-returns-in-Pipe-clause-read t c =
    subst (λ l. IfOk c.read_joined.result (λ x. Side l c.args.depth c.args.tokens.now (Ok (x.0, x.1.now)))) (sym c.in-Pipe.is) (ok_weaker _ _ _ (λ x e. Side.pipe_side e) c.read_joined.ensures.read)

pub read_side-returns-in-Pipe-clause-fault : goal.read_side-returns-in-Pipe-clause-fault
read_side-returns-in-Pipe-clause-fault t c =
    subst (λ l. IfErr c.read_joined.result (Stops (λ s. Side l c.args.depth c.args.tokens.now (Err s)))) (sym c.in-Pipe.is) (err_weaker _ (λ s. Joined level.Or c.args.depth c.args.tokens.now (Err s)) _ (λ s e. Side.pipe_side e) c.read_joined.ensures.fault)

pub read_side-returns-in-Or-clause-read : goal.read_side-returns-in-Or-clause-read
read_side-returns-in-Or-clause-read t c =
    subst (λ l. IfOk c.read_joined-in-Or.result (λ x. Side l c.args.depth c.args.tokens.now (Ok (x.0, x.1.now)))) (sym c.in-Or.is) (ok_weaker _ _ _ (λ x e. Side.or_side e) c.read_joined-in-Or.ensures.read)

pub read_side-returns-in-Or-clause-fault : goal.read_side-returns-in-Or-clause-fault
read_side-returns-in-Or-clause-fault t c =
    subst (λ l. IfErr c.read_joined-in-Or.result (Stops (λ s. Side l c.args.depth c.args.tokens.now (Err s)))) (sym c.in-Or.is) (err_weaker _ (λ s. Joined level.And c.args.depth c.args.tokens.now (Err s)) _ (λ s e. Side.or_side e) c.read_joined-in-Or.ensures.fault)

pub read_side-returns-in-And-clause-read : goal.read_side-returns-in-And-clause-read
read_side-returns-in-And-clause-read t c =
    subst (λ l. IfOk c.read_comparison.result (λ x. Side l c.args.depth c.args.tokens.now (Ok (x.0, x.1.now)))) (sym c.in-And.is) (ok_weaker _ _ _ (λ x e. Side.and_side e) c.read_comparison.ensures.read)

pub read_side-returns-in-And-clause-fault : goal.read_side-returns-in-And-clause-fault
read_side-returns-in-And-clause-fault t c =
    subst (λ l. IfErr c.read_comparison.result (Stops (λ s. Side l c.args.depth c.args.tokens.now (Err s)))) (sym c.in-And.is) (err_weaker _ (λ s. Comparison c.args.depth c.args.tokens.now (Err s)) _ (λ s e. Side.and_side e) c.read_comparison.ensures.fault)

pub read_comparison-returns-in_err-first-clause-fault : goal.read_comparison-returns-in_err-first-clause-fault
read_comparison-returns-in_err-first-clause-fault t c =
    let p = err_from_is_err_and c.from_residual.result c.from_residual.ensures.1 in
    rw (p.1, p.2) (weaker _ (λ s. Comparison c.args.depth c.args.tokens.now (Err s)) _ (λ s h. Comparison.bad_first h) c.in_err-first.ensures.fault)

pub read_comparison-returns-in_err-compared-clause-fault : goal.read_comparison-returns-in_err-compared-clause-fault
read_comparison-returns-in_err-compared-clause-fault t c =
    let p = err_from_is_err_and c.from_residual-in_err-compared.result c.from_residual-in_err-compared.ensures.1 in
    rw (p.1, p.2) (weaker _ (λ s. Comparison c.args.depth c.args.tokens.now (Err s)) _ (λ s h. Comparison.compared_with {o = Err s} c.in_ok-first.ensures.read h) c.in_err-compared.ensures.fault)

pub read_comparison-returns-clause-read : goal.read_comparison-returns-clause-read
read_comparison-returns-clause-read t c = rw c.comparison.ensures (Comparison.compared_with c.in_ok-first.ensures.read c.in_ok-compared.ensures.read)

pub read_compared-returns-in_default-clause-read : goal.read_compared-returns-in_default-clause-read
read_compared-returns-in_default-clause-read t c = c.loop-comparator.invariant _ (Comparisons.no_comparator c.in_default.ensures)

pub read_compared-returns-in_err-right-clause-fault : goal.read_compared-returns-in_err-right-clause-fault
read_compared-returns-in_err-right-clause-fault t c =
    let p = err_from_is_err_and c.from_residual.result c.from_residual.ensures.1 in
    rw (p.1, p.2) (weaker _ (λ s. Comparisons c.args.depth [] c.args.tokens.now (Err s)) _ (λ s h. c.loop-comparator.invariant _ (Comparisons.bad_right c.in-Some.ensures h)) c.in_err-right.ensures.fault)

pub read_compared-loop-comparator-smaller : goal.read_compared-loop-comparator-smaller
read_compared-loop-comparator-smaller t c =
    omega (arith, operand-within c.in_ok-right.ensures.read, shorter-at c.loop-comparator.rest.now (comparator_at c.loop-comparator.rest.now) c.in-Some.comparator c.in-Some.more.now (comparator_at-shorter c.loop-comparator.rest.now) c.in-Some.ensures)

pub read_compared-loop-comparator-preserved : goal.read_compared-loop-comparator-preserved
read_compared-loop-comparator-preserved t c = λ o rest.
    c.loop-comparator.invariant o (Comparisons.more_compared c.in-Some.ensures c.in_ok-right.ensures.read (rw c.in_ok-push.ensures.ok at rest))

pub read_operand-returns-in_err-chain-clause-fault : goal.read_operand-returns-in_err-chain-clause-fault
read_operand-returns-in_err-chain-clause-fault t c =
    let p = err_from_is_err_and c.from_residual.result c.from_residual.ensures.1 in
    rw (p.1, p.2) (weaker _ (λ s. OperandAt c.args.depth c.args.tokens.now (Err s)) _ (λ s h. OperandAt.negated (subst (λ us. ChainAt c.args.depth us (Err s)) (ap (λ x. x.1) c.negations_at-negations.ensures) h)) c.in_err-chain.ensures.fault)

pub read_operand-returns-clause-read : goal.read_operand-returns-clause-read
read_operand-returns-clause-read t c =
    subst (λ k. OperandAt c.args.depth c.args.tokens.now (Ok (operand k c.in_ok-chain.chain, c.in_ok-chain.rest.now))) (sym (ap (λ x. x.0) c.negations_at-negations.ensures))
    (OperandAt.negated (subst (λ us. ChainAt c.args.depth us (Ok (c.in_ok-chain.chain, c.in_ok-chain.rest.now))) (ap (λ x. x.1) c.negations_at-negations.ensures) c.in_ok-chain.ensures.read))

pub read_chain-returns-in_err-first-clause-fault : goal.read_chain-returns-in_err-first-clause-fault
read_chain-returns-in_err-first-clause-fault t c =
    let p = err_from_is_err_and c.from_residual.result c.from_residual.ensures.1 in
    rw (p.1, p.2) (weaker _ (λ s. ChainAt c.args.depth c.args.tokens.now (Err s)) _ (λ s h. ChainAt.bad_start h) c.in_err-first.ensures.fault)

pub read_chain-loop-chain-init : goal.read_chain-loop-chain-init
read_chain-loop-chain-init t c = λ o rest. ChainAt.started c.in_ok-first.ensures.read (rw (c.in_ok-chain.ensures, c.empty_chain.ensures) at rest)

pub read_chain-returns-in_err-link-clause-fault : goal.read_chain-returns-in_err-link-clause-fault
read_chain-returns-in_err-link-clause-fault t c =
    let p = err_from_is_err_and c.from_residual-in_err-link.result c.from_residual-in_err-link.ensures.1 in
    rw (p.1, p.2) (weaker _ (λ s. ChainAt c.args.depth c.args.tokens.now (Err s)) _ (λ s h. c.loop-chain.invariant _ (Links.bad_link h)) c.in_err-link.ensures.fault)

pub read_chain-returns-in_default-clause-read : goal.read_chain-returns-in_default-clause-read
read_chain-returns-in_default-clause-read t c = c.loop-chain.invariant _ (Links.no_link (rw c.in_default.is at c.in_ok-link.ensures.read))

pub read_chain-loop-chain-smaller : goal.read_chain-loop-chain-smaller
read_chain-loop-chain-smaller t c =
    let link = rw c.in-Some.is at c.in_ok-link.ensures.read in
    omega (arith, link-within link)

pub read_chain-loop-chain-preserved : goal.read_chain-loop-chain-preserved
read_chain-loop-chain-preserved t c = λ o rest.
    c.loop-chain.invariant o (Links.more_links (rw c.in-Some.is at c.in_ok-link.ensures.read) (rw c.in_ok-chain-2.ensures at rest))

pub read_link-returns-in_err-step-clause-fault : goal.read_link-returns-in_err-step-clause-fault
read_link-returns-in_err-step-clause-fault t c =
    let p = err_from_is_err_and c.from_residual.result c.from_residual.ensures.1 in
    rw (p.1, p.2) (weaker _ (λ s. LinkAt c.args.depth c.args.tokens.now (Err s)) _ (λ s h. LinkAt.dot {o = Err s} c.in-Some.ensures h) c.in_err-step.ensures.fault)

pub read_link-returns-in-Some-clause-read : goal.read_link-returns-in-Some-clause-read
read_link-returns-in-Some-clause-read t c = LinkAt.dot c.in-Some.ensures c.in_ok-step.ensures.read

pub read_link-returns-in_err-index-clause-fault : goal.read_link-returns-in_err-index-clause-fault
read_link-returns-in_err-index-clause-fault t c =
    let p = err_from_is_err_and c.from_residual-in_err-index.result c.from_residual-in_err-index.ensures.1 in
    rw (p.1, p.2) (all_stop (λ s. LinkAt c.args.depth c.args.tokens.now (Err s)) _ (subst (λ o. LinkAt c.args.depth c.args.tokens.now (linking link.Step o)) c.in_err-index.ensures (LinkAt.index c.in-Some-strip.ensures)))

pub read_link-returns-in-Some-strip-clause-read : goal.read_link-returns-in-Some-strip-clause-read
read_link-returns-in-Some-strip-clause-read t c = subst (λ o. LinkAt c.args.depth c.args.tokens.now (linking link.Step o)) c.in_ok-index.ensures (LinkAt.index c.in-Some-strip.ensures)

pub read_link-returns-in_err-test-clause-fault : goal.read_link-returns-in_err-test-clause-fault
read_link-returns-in_err-test-clause-fault t c =
    let p = err_from_is_err_and c.from_residual-in_err-test.result c.from_residual-in_err-test.ensures.1 in
    rw (p.1, p.2) (weaker _ (λ s. LinkAt c.args.depth c.args.tokens.now (Err s)) _ (λ s h. LinkAt.filter {o = Err s} c.in-Some-strip-2.ensures h) c.in_err-test.ensures.fault)

pub read_link-returns-in-Some-strip-2-clause-read : goal.read_link-returns-in-Some-strip-2-clause-read
read_link-returns-in-Some-strip-2-clause-read t c = LinkAt.filter c.in-Some-strip-2.ensures c.in_ok-test.ensures.read

pub read_link-returns-in-Some-strip-3-clause-read : goal.read_link-returns-in-Some-strip-3-clause-read
read_link-returns-in-Some-strip-3-clause-read t c = subst (λ o. LinkAt c.args.depth c.args.tokens.now (linking (λ k. k) o)) c.in_ok-flatten.ensures (LinkAt.flatten c.in-Some-strip-3.ensures)

pub read_link-returns-in_err-flatten-clause-fault : goal.read_link-returns-in_err-flatten-clause-fault
read_link-returns-in_err-flatten-clause-fault t c =
    let p = err_from_is_err_and c.from_residual-in_err-flatten.result c.from_residual-in_err-flatten.ensures.1 in
    rw (p.1, p.2) (all_stop (λ s. LinkAt c.args.depth c.args.tokens.now (Err s)) _ (subst (λ o. LinkAt c.args.depth c.args.tokens.now (linking (λ k. k) o)) c.in_err-flatten.ensures (LinkAt.flatten c.in-Some-strip-3.ensures)))

pub read_link-returns-clause-read : goal.read_link-returns-clause-read
read_link-returns-clause-read t c = LinkAt.chain_ends c.in_default.ensures c.in_default-strip.ensures c.in_default-strip-2.ensures c.in_default-strip-3.ensures

pub read_first-returns-in_err-inner-clause-fault : goal.read_first-returns-in_err-inner-clause-fault
read_first-returns-in_err-inner-clause-fault t c =
    let p = err_from_is_err_and c.from_residual.result c.from_residual.ensures.1 in
    rw (p.1, p.2) (weaker _ (λ s. First c.args.depth c.args.tokens.now (Err s)) _ (λ s h. First.group {o = Err s} c.in-Some.ensures h) c.in_err-inner.ensures.fault)

pub read_first-returns-in-Some-clause-read : goal.read_first-returns-in-Some-clause-read
read_first-returns-in-Some-clause-read t c = First.group c.in-Some.ensures c.in_ok-inner.ensures.read

pub read_first-returns-in_err-test-clause-fault : goal.read_first-returns-in_err-test-clause-fault
read_first-returns-in_err-test-clause-fault t c =
    let p = err_from_is_err_and c.from_residual-in_err-test.result c.from_residual-in_err-test.ensures.1 in
    rw (p.1, p.2) (weaker _ (λ s. First c.args.depth c.args.tokens.now (Err s)) _ (λ s h. First.first_filter {o = Err s} c.in-Some-strip.ensures h) c.in_err-test.ensures.fault)

pub read_first-returns-in-Some-strip-clause-read : goal.read_first-returns-in-Some-strip-clause-read
read_first-returns-in-Some-strip-clause-read t c = First.first_filter c.in-Some-strip.ensures c.in_ok-test.ensures.read

pub read_first-returns-in_err-index-clause-fault : goal.read_first-returns-in_err-index-clause-fault
read_first-returns-in_err-index-clause-fault t c =
    let p = err_from_is_err_and c.from_residual-in_err-index.result c.from_residual-in_err-index.ensures.1 in
    rw (p.1, p.2) (all_stop (λ s. First c.args.depth c.args.tokens.now (Err s)) _ (subst (λ o. First c.args.depth c.args.tokens.now (made link.Step o)) c.in_err-index.ensures (First.first_index c.in-Some-strip_index.ensures)))

pub read_first-returns-in-Some-strip_index-clause-read : goal.read_first-returns-in-Some-strip_index-clause-read
read_first-returns-in-Some-strip_index-clause-read t c = subst (λ o. First c.args.depth c.args.tokens.now (made link.Step o)) c.in_ok-index.ensures (First.first_index c.in-Some-strip_index.ensures)

pub read_first-returns-in-Some-strip-2-clause-read : goal.read_first-returns-in-Some-strip-2-clause-read
read_first-returns-in-Some-strip-2-clause-read t c = subst (First c.args.depth c.args.tokens.now) c.in_ok-flatten.ensures (First.first_flatten c.in-Some-strip-2.ensures)

pub read_first-returns-in_err-flatten-clause-fault : goal.read_first-returns-in_err-flatten-clause-fault
read_first-returns-in_err-flatten-clause-fault t c =
    let p = err_from_is_err_and c.from_residual-in_err-flatten.result c.from_residual-in_err-flatten.ensures.1 in
    rw (p.1, p.2) (all_stop (λ s. First c.args.depth c.args.tokens.now (Err s)) _ (subst (First c.args.depth c.args.tokens.now) c.in_err-flatten.ensures (First.first_flatten c.in-Some-strip-2.ensures)))

pub read_first-returns-in-Some-strip-3-clause-read : goal.read_first-returns-in-Some-strip-3-clause-read
read_first-returns-in-Some-strip-3-clause-read t c = First.current c.in-Some-strip-3.ensures

pub read_first-returns-in-Some-literal_at-clause-read : goal.read_first-returns-in-Some-literal_at-clause-read
read_first-returns-in-Some-literal_at-clause-read t c = rw c.in_ok-doc.ensures (First.literal c.in-Some-literal_at.ensures)

pub read_first-returns-in_err-step-clause-fault : goal.read_first-returns-in_err-step-clause-fault
read_first-returns-in_err-step-clause-fault t c =
    let p = err_from_is_err_and c.from_residual-in_err-step.result c.from_residual-in_err-step.ensures.1 in
    rw (p.1, p.2) (weaker _ (λ s. First c.args.depth c.args.tokens.now (Err s)) _ (λ s h. First.part {o = Err s} c.in_default.ensures c.in_default-strip.ensures c.in_default-strip_index.ensures c.in_default-strip-2.ensures c.in_default-strip-3.ensures c.in_default-literal_at.ensures h) c.in_err-step.ensures.fault)

pub read_first-returns-clause-read : goal.read_first-returns-clause-read
read_first-returns-clause-read t c = First.part c.in_default.ensures c.in_default-strip.ensures c.in_default-strip_index.ensures c.in_default-strip-2.ensures c.in_default-strip-3.ensures c.in_default-literal_at.ensures c.in_ok-step.ensures.read

pub read_enclosed-returns-in_err-inside-clause-fault : goal.read_enclosed-returns-in_err-inside-clause-fault
read_enclosed-returns-in_err-inside-clause-fault t c =
    let p = err_from_is_err_and c.from_residual.result c.from_residual.ensures.1 in
    rw (p.1, p.2, c.in_err-inside.ensures.too_deep.1) (Enclosed.deep_bracket c.in_err-inside.ensures.too_deep.0)

pub read_enclosed-returns-in_err-expr-clause-fault : goal.read_enclosed-returns-in_err-expr-clause-fault
read_enclosed-returns-in_err-expr-clause-fault t c =
    let p = err_from_is_err_and c.from_residual-in_err-expr.result c.from_residual-in_err-expr.ensures.1 in
    rw (p.1, p.2) (weaker _ (λ s. Enclosed c.args.close c.args.depth c.args.tokens.now (Err s)) _ (λ s h. Enclosed.enclosed c.in_ok-inside.ensures.inside.0 (subst (λ m. Joined level.Pipe m c.args.tokens.now (Err s)) c.in_ok-inside.ensures.inside.1 h)) c.in_err-expr.ensures.fault)

pub read_enclosed-returns-in_err-pass-clause-fault : goal.read_enclosed-returns-in_err-pass-clause-fault
read_enclosed-returns-in_err-pass-clause-fault t c =
    let p = err_from_is_err_and c.from_residual-in_err-pass.result c.from_residual-in_err-pass.ensures.1 in
    rw (p.1, p.2) (all_stop (λ s. Enclosed c.args.close c.args.depth c.args.tokens.now (Err s)) _ (subst (λ r. Enclosed c.args.close c.args.depth c.args.tokens.now (r >>= (λ us. Ok (c.in_ok-expr.expr, us)))) c.in_err-pass.ensures
    (Enclosed.enclosed c.in_ok-inside.ensures.inside.0 (subst (λ m. Joined level.Pipe m c.args.tokens.now (Ok (c.in_ok-expr.expr, c.in_ok-expr.rest.now))) c.in_ok-inside.ensures.inside.1 c.in_ok-expr.ensures.read))))

pub read_enclosed-returns-clause-read : goal.read_enclosed-returns-clause-read
read_enclosed-returns-clause-read t c =
    subst (λ r. Enclosed c.args.close c.args.depth c.args.tokens.now (r >>= (λ us. Ok (c.in_ok-expr.expr, us)))) c.in_ok-pass.ensures
    (Enclosed.enclosed c.in_ok-inside.ensures.inside.0 (subst (λ m. Joined level.Pipe m c.args.tokens.now (Ok (c.in_ok-expr.expr, c.in_ok-expr.rest.now))) c.in_ok-inside.ensures.inside.1 c.in_ok-expr.ensures.read))

pub read_part-returns-in-Some-clause-read : goal.read_part-returns-in-Some-clause-read
read_part-returns-in-Some-clause-read t c = Part.values c.in-Some.ensures

pub read_part-returns-in_err-items-clause-fault : goal.read_part-returns-in_err-items-clause-fault
read_part-returns-in_err-items-clause-fault t c =
    let p = err_from_is_err_and c.from_residual.result c.from_residual.ensures.1 in
    rw (p.1, p.2) (weaker _ (λ s. Part c.args.depth c.args.tokens.now (Err s)) _ (λ s h. Part.list {o = Err s} c.in-Some-strip.ensures h) c.in_err-items.ensures.fault)

pub read_part-returns-in-Some-strip-clause-read : goal.read_part-returns-in-Some-strip-clause-read
read_part-returns-in-Some-strip-clause-read t c = Part.list c.in-Some-strip.ensures c.in_ok-items.ensures.read

pub read_part-returns-in_err-members-clause-fault : goal.read_part-returns-in_err-members-clause-fault
read_part-returns-in_err-members-clause-fault t c =
    let p = err_from_is_err_and c.from_residual-in_err-members.result c.from_residual-in_err-members.ensures.1 in
    rw (p.1, p.2) (weaker _ (λ s. Part c.args.depth c.args.tokens.now (Err s)) _ (λ s h. Part.hash {o = Err s} c.in-Some-strip-2.ensures h) c.in_err-members.ensures.fault)

pub read_part-returns-in-Some-strip-2-clause-read : goal.read_part-returns-in-Some-strip-2-clause-read
read_part-returns-in-Some-strip-2-clause-read t c = Part.hash c.in-Some-strip-2.ensures c.in_ok-members.ensures.read

pub read_part-returns-in-Some-name_at-clause-read : goal.read_part-returns-in-Some-name_at-clause-read
read_part-returns-in-Some-name_at-clause-read t c = ok_weaker _ _ _ (λ x e. Part.name c.in-Some-name_at.ensures e) c.read_named.ensures.read

pub read_part-returns-in-Some-name_at-clause-fault : goal.read_part-returns-in-Some-name_at-clause-fault
read_part-returns-in-Some-name_at-clause-fault t c = err_weaker _ _ (λ s. Part c.args.depth c.args.tokens.now (Err s)) (λ s e. Part.name c.in-Some-name_at.ensures e) c.read_named.ensures.fault

pub read_part-returns-in-Some-quoted_at-clause-read : goal.read_part-returns-in-Some-quoted_at-clause-read
read_part-returns-in-Some-quoted_at-clause-read t c = rw c.in_ok-copy.ensures (Part.quoted c.in-Some-quoted_at.ensures)

pub read_part-returns-clause-fault : goal.read_part-returns-clause-fault
read_part-returns-clause-fault t c = Part.nothing c.in_default.ensures c.in_default-strip.ensures c.in_default-strip-2.ensures c.in_default-name_at.ensures c.in_default-quoted_at.ensures

pub read_named-returns-in_default-clause-read : goal.read_named-returns-in_default-clause-read
read_named-returns-in_default-clause-read t c = rw c.in_ok-copy.ensures (Named.field c.in_default.ensures)

pub read_named-returns-in_default-named-clause-fault : goal.read_named-returns-in_default-named-clause-fault
read_named-returns-in_default-named-clause-fault t c = Named.unknown c.in-Some.ensures (sym c.in_default-named.ensures)

pub read_named-returns-in_err-inside-clause-fault : goal.read_named-returns-in_err-inside-clause-fault
read_named-returns-in_err-inside-clause-fault t c =
    let p = err_from_is_err_and c.from_residual-in_err-inside.result c.from_residual-in_err-inside.ensures.1 in
    rw (p.1, p.2, c.in_err-inside.ensures.too_deep.1) (Named.deep_call c.in-Some.ensures (sym c.in-Some-named.ensures) c.in_err-inside.ensures.too_deep.0)

pub read_named-returns-in_err-arguments-clause-fault : goal.read_named-returns-in_err-arguments-clause-fault
read_named-returns-in_err-arguments-clause-fault t c =
    let p = err_from_is_err_and c.from_residual-in_err-arguments.result c.from_residual-in_err-arguments.ensures.1 in
    rw (p.1, p.2) (weaker _ (λ s. Named c.args.depth c.args.name.now c.args.tokens.now (Err s)) _ (λ s h. Named.call {o = Err s} c.in-Some.ensures (sym c.in-Some-named.ensures) c.in_ok-inside.ensures.inside.0 (subst (λ m. Arguments m c.in-Some.rest.now (Err s)) c.in_ok-inside.ensures.inside.1 h)) c.in_err-arguments.ensures.fault)

pub read_named-returns-then-takes-clause-read : goal.read_named-returns-then-takes-clause-read
read_named-returns-then-takes-clause-read t c =
    let test : takes (arity_of c.in-Some-named.function) (length c.in_ok-arguments.arguments) ≡ true = sym (rw (c.arity.ensures, c.len.ensures) at c.if-takes.ensures) in
    subst (λ v. Named c.args.depth c.args.name.now c.args.tokens.now (if v then Ok (step.Call c.in-Some-named.function c.in_ok-arguments.arguments, c.in_ok-arguments.rest.now) else Err (Arity (length c.args.tokens.now + 1)))) test
    (Named.call {o = Ok (c.in_ok-arguments.arguments, c.in_ok-arguments.rest.now)} c.in-Some.ensures (sym c.in-Some-named.ensures) c.in_ok-inside.ensures.inside.0 (subst (λ m. Arguments m c.in-Some.rest.now (Ok (c.in_ok-arguments.arguments, c.in_ok-arguments.rest.now))) c.in_ok-inside.ensures.inside.1 c.in_ok-arguments.ensures.read))

pub read_named-returns-clause-fault : goal.read_named-returns-clause-fault
read_named-returns-clause-fault t c =
    let test : takes (arity_of c.in-Some-named.function) (length c.in_ok-arguments.arguments) ≡ false = sym (rw (c.arity.ensures, c.len.ensures) at c.if-takes.ensures) in
    subst (λ v. Named c.args.depth c.args.name.now c.args.tokens.now (if v then Ok (step.Call c.in-Some-named.function c.in_ok-arguments.arguments, c.in_ok-arguments.rest.now) else Err (Arity (length c.args.tokens.now + 1)))) test
    (Named.call {o = Ok (c.in_ok-arguments.arguments, c.in_ok-arguments.rest.now)} c.in-Some.ensures (sym c.in-Some-named.ensures) c.in_ok-inside.ensures.inside.0 (subst (λ m. Arguments m c.in-Some.rest.now (Ok (c.in_ok-arguments.arguments, c.in_ok-arguments.rest.now))) c.in_ok-inside.ensures.inside.1 c.in_ok-arguments.ensures.read))

pub read_items-returns-in_err-inside-clause-fault : goal.read_items-returns-in_err-inside-clause-fault
read_items-returns-in_err-inside-clause-fault t c =
    let p = err_from_is_err_and c.from_residual.result c.from_residual.ensures.1 in
    rw (p.1, p.2, c.in_err-inside.ensures.too_deep.1) (Items.deep_list c.in_err-inside.ensures.too_deep.0)

pub read_items-returns-in_err-item-clause-fault : goal.read_items-returns-in_err-item-clause-fault
read_items-returns-in_err-item-clause-fault t c =
    let p = err_from_is_err_and c.from_residual-in_err-item.result c.from_residual-in_err-item.ensures.1 in
    rw (p.1, p.2) (weaker _ (λ s. Items c.args.depth c.args.tokens.now (Err s)) _ (λ s h. Items.items c.in_ok-inside.ensures.inside.0 (c.loop-items.invariant _ (MoreItems.bad_item (subst (λ m. Joined level.Pipe m c.loop-items.rest.now (Err s)) c.in_ok-inside.ensures.inside.1 h)))) c.in_err-item.ensures.fault)

pub read_items-returns-in-Some-clause-read : goal.read_items-returns-in-Some-clause-read
read_items-returns-in-Some-clause-read t c =
    rw c.in_ok-push.ensures.ok (Items.items c.in_ok-inside.ensures.inside.0 (c.loop-items.invariant _ (MoreItems.last_item (subst (λ m. Joined level.Pipe m c.loop-items.rest.now (Ok (c.in_ok-item.item, c.in_ok-item.after.now))) c.in_ok-inside.ensures.inside.1 c.in_ok-item.ensures.read) c.in-Some.ensures)))

pub read_items-returns-in_err-rest-clause-fault : goal.read_items-returns-in_err-rest-clause-fault
read_items-returns-in_err-rest-clause-fault t c =
    let p = err_from_is_err_and c.from_residual-in_err-rest.result c.from_residual-in_err-rest.ensures.1 in
    rw (p.1, p.2) (all_stop (λ s. Items c.args.depth c.args.tokens.now (Err s)) _ (Items.items c.in_ok-inside.ensures.inside.0 (c.loop-items.invariant _ (MoreItems.open_list (subst (λ m. Joined level.Pipe m c.loop-items.rest.now (Ok (c.in_ok-item.item, c.in_ok-item.after.now))) c.in_ok-inside.ensures.inside.1 c.in_ok-item.ensures.read) c.in_default.ensures c.in_err-rest.ensures))))

pub read_items-loop-items-smaller : goal.read_items-loop-items-smaller
read_items-loop-items-smaller t c = omega (arith, joined-within c.in_ok-item.ensures.read, past-lt mark.Comma c.in_ok-item.after.now c.in_ok-rest.rest.now c.in_ok-rest.ensures)

pub read_items-loop-items-preserved : goal.read_items-loop-items-preserved
read_items-loop-items-preserved t c = λ o rest.
    c.loop-items.invariant o (MoreItems.more_items (subst (λ m. Joined level.Pipe m c.loop-items.rest.now (Ok (c.in_ok-item.item, c.in_ok-item.after.now))) c.in_ok-inside.ensures.inside.1 c.in_ok-item.ensures.read) c.in_default.ensures c.in_ok-rest.ensures (rw c.in_ok-push.ensures.ok at rest))

pub read_members-returns-in_err-inside-clause-fault : goal.read_members-returns-in_err-inside-clause-fault
read_members-returns-in_err-inside-clause-fault t c =
    let p = err_from_is_err_and c.from_residual.result c.from_residual.ensures.1 in
    rw (p.1, p.2, c.in_err-inside.ensures.too_deep.1) (Members.deep_hash c.in_err-inside.ensures.too_deep.0)

pub read_members-returns-in_err-key-clause-fault : goal.read_members-returns-in_err-key-clause-fault
read_members-returns-in_err-key-clause-fault t c =
    let p = err_from_is_err_and c.from_residual-in_err-key.result c.from_residual-in_err-key.ensures.1 in
    rw (p.1, p.2) (weaker _ (λ s. Members c.args.depth c.args.tokens.now (Err s)) _ (λ s h. Members.members c.in_ok-inside.ensures.inside.0 (c.loop-members.invariant _ (MoreMembers.bad_key h))) c.in_err-key.ensures.fault)

pub read_members-returns-in_err-value-clause-fault : goal.read_members-returns-in_err-value-clause-fault
read_members-returns-in_err-value-clause-fault t c =
    let p = err_from_is_err_and c.from_residual-in_err-value.result c.from_residual-in_err-value.ensures.1 in
    rw (p.1, p.2) (weaker _ (λ s. Members c.args.depth c.args.tokens.now (Err s)) _ (λ s h. Members.members c.in_ok-inside.ensures.inside.0 (c.loop-members.invariant _ (MoreMembers.bad_member c.in_ok-key.ensures.read (subst (λ m. Joined level.Pipe m c.in_ok-key.after.now (Err s)) c.in_ok-inside.ensures.inside.1 h)))) c.in_err-value.ensures.fault)

pub read_members-returns-in-Some-clause-read : goal.read_members-returns-in-Some-clause-read
read_members-returns-in-Some-clause-read t c =
    rw c.in_ok-push.ensures.ok (Members.members c.in_ok-inside.ensures.inside.0 (c.loop-members.invariant _ (MoreMembers.last_member c.in_ok-key.ensures.read (subst (λ m. Joined level.Pipe m c.in_ok-key.after.now (Ok (c.in_ok-value.value, c.in_ok-value.after.now))) c.in_ok-inside.ensures.inside.1 c.in_ok-value.ensures.read) c.in-Some.ensures)))

pub read_members-returns-in_err-rest-clause-fault : goal.read_members-returns-in_err-rest-clause-fault
read_members-returns-in_err-rest-clause-fault t c =
    let p = err_from_is_err_and c.from_residual-in_err-rest.result c.from_residual-in_err-rest.ensures.1 in
    rw (p.1, p.2) (all_stop (λ s. Members c.args.depth c.args.tokens.now (Err s)) _ (Members.members c.in_ok-inside.ensures.inside.0 (c.loop-members.invariant _ (MoreMembers.open_hash c.in_ok-key.ensures.read (subst (λ m. Joined level.Pipe m c.in_ok-key.after.now (Ok (c.in_ok-value.value, c.in_ok-value.after.now))) c.in_ok-inside.ensures.inside.1 c.in_ok-value.ensures.read) c.in_default.ensures c.in_err-rest.ensures))))

pub read_members-loop-members-smaller : goal.read_members-loop-members-smaller
read_members-loop-members-smaller t c = omega (arith, key_at-le c.loop-members.rest.now c.in_ok-key.key c.in_ok-key.after.now c.in_ok-key.ensures.read, joined-within c.in_ok-value.ensures.read, past-lt mark.Comma c.in_ok-value.after.now c.in_ok-rest.rest.now c.in_ok-rest.ensures)

pub read_members-loop-members-preserved : goal.read_members-loop-members-preserved
read_members-loop-members-preserved t c = λ o rest.
    c.loop-members.invariant o (MoreMembers.more_members c.in_ok-key.ensures.read (subst (λ m. Joined level.Pipe m c.in_ok-key.after.now (Ok (c.in_ok-value.value, c.in_ok-value.after.now))) c.in_ok-inside.ensures.inside.1 c.in_ok-value.ensures.read) c.in_default.ensures c.in_ok-rest.ensures (rw c.in_ok-push.ensures.ok at rest))

pub read_arguments-returns-in-Some-clause-read : goal.read_arguments-returns-in-Some-clause-read
read_arguments-returns-in-Some-clause-read t c = rw c.new-arguments.ensures (Arguments.no_arguments c.in-Some.ensures)

pub read_arguments-returns-in_err-argument-clause-fault : goal.read_arguments-returns-in_err-argument-clause-fault
read_arguments-returns-in_err-argument-clause-fault t c =
    let p = err_from_is_err_and c.from_residual.result c.from_residual.ensures.1 in
    rw (p.1, p.2) (weaker _ (λ s. Arguments c.args.depth c.args.tokens.now (Err s)) _ (λ s h. Arguments.arguments c.in_default.ensures (c.loop-arguments.invariant _ (MoreArguments.bad_argument h))) c.in_err-argument.ensures.fault)

pub read_arguments-returns-in-Some-strip-clause-read : goal.read_arguments-returns-in-Some-strip-clause-read
read_arguments-returns-in-Some-strip-clause-read t c =
    rw c.in_ok-push.ensures.ok (Arguments.arguments c.in_default.ensures (c.loop-arguments.invariant _ (MoreArguments.last_argument c.in_ok-argument.ensures.read c.in-Some-strip.ensures)))

pub read_arguments-returns-in_err-rest-clause-fault : goal.read_arguments-returns-in_err-rest-clause-fault
read_arguments-returns-in_err-rest-clause-fault t c =
    let p = err_from_is_err_and c.from_residual-in_err-rest.result c.from_residual-in_err-rest.ensures.1 in
    rw (p.1, p.2) (all_stop (λ s. Arguments c.args.depth c.args.tokens.now (Err s)) _ (Arguments.arguments c.in_default.ensures (c.loop-arguments.invariant _ (MoreArguments.open_call c.in_ok-argument.ensures.read c.in_default-strip.ensures c.in_err-rest.ensures))))

pub read_arguments-loop-arguments-smaller : goal.read_arguments-loop-arguments-smaller
read_arguments-loop-arguments-smaller t c = omega (arith, argument-within c.in_ok-argument.ensures.read, past-lt mark.Comma c.in_ok-argument.after.now c.in_ok-rest.rest.now c.in_ok-rest.ensures)

pub read_arguments-loop-arguments-preserved : goal.read_arguments-loop-arguments-preserved
read_arguments-loop-arguments-preserved t c = λ o rest.
    c.loop-arguments.invariant o (MoreArguments.more_arguments c.in_ok-argument.ensures.read c.in_default-strip.ensures c.in_ok-rest.ensures (rw c.in_ok-push.ensures.ok at rest))

pub read_argument-returns-in_err-expr-clause-fault : goal.read_argument-returns-in_err-expr-clause-fault
read_argument-returns-in_err-expr-clause-fault t c =
    let p = err_from_is_err_and c.from_residual.result c.from_residual.ensures.1 in
    rw (p.1, p.2) (weaker _ (λ s. ArgumentAt c.args.depth c.args.tokens.now (Err s)) _ (λ s h. ArgumentAt.expref {o = Err s} c.in-Some.ensures h) c.in_err-expr.ensures.fault)

pub read_argument-returns-in-Some-clause-read : goal.read_argument-returns-in-Some-clause-read
read_argument-returns-in-Some-clause-read t c = ArgumentAt.expref c.in-Some.ensures c.in_ok-expr.ensures.read

pub read_argument-returns-in_err-expr-2-clause-fault : goal.read_argument-returns-in_err-expr-2-clause-fault
read_argument-returns-in_err-expr-2-clause-fault t c =
    let p = err_from_is_err_and c.from_residual-in_err-expr-2.result c.from_residual-in_err-expr-2.ensures.1 in
    rw (p.1, p.2) (weaker _ (λ s. ArgumentAt c.args.depth c.args.tokens.now (Err s)) _ (λ s h. ArgumentAt.value {o = Err s} c.in_default.ensures h) c.in_err-expr-2.ensures.fault)

pub read_argument-returns-clause-read : goal.read_argument-returns-clause-read
read_argument-returns-clause-read t c = ArgumentAt.value c.in_default.ensures c.in_ok-expr-2.ensures.read
