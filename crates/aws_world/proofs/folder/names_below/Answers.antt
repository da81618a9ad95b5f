use Rattle.std.proofs.Common.{sym, ◌∙◌, refl, ap, [], ◌∷◌, ◌++◌, take}
use Rattle.std.proofs.lemmas.Bool.{false≢true}
use Rattle.std.proofs.lemmas.List.{take_more, take_all}
use Rattle.aws_world.proofs.Folders.{exact_outside, exact_below, none_below, below_left, below_here}
use Rattle.aws_world.proofs.folder.names_below.Goals as goal

pub loop-path-preserved-in_default : goal.loop-path-preserved-in_default
loop-path-preserved-in_default c =
    let item = c.loop-path-item.result in
    let before = c.loop-path.invariant in
    let next = take_more _ c.loop-path.path-index item c.loop-path-test.true ∙ ap (λ f. take c.loop-path.path-index c.args.files.now ++ f ∷ []) (sym c.loop-path-item.is) in
    rw next (record {
      ascending = before.ascending;
      exact = exact_outside _ _ item _ c.in_default.ensures.none before.exact;
      there = (λ t. below_left _ _ item (before.there.0 t), λ b. before.there.1 (none_below _ _ item c.in_default.ensures.none b));
    })

pub loop-path-preserved : goal.loop-path-preserved
loop-path-preserved c =
    let item = c.loop-path-item.result in
    let before = c.loop-path.invariant in
    let added = c.in_ok-add_name.ensures in
    let next = take_more _ c.loop-path.path-index item c.loop-path-test.true ∙ ap (λ f. take c.loop-path.path-index c.args.files.now ++ f ∷ []) (sym c.loop-path-item.is) in
    rw next (record {
      ascending = added.ascending;
      exact = exact_below _ _ item _ _ _ _ c.in-Some.ensures.rest c.in_ok-first_part.ensures before.exact added.exact;
      there = (λ t. below_here _ _ item _ c.in-Some.ensures.rest, λ b. refl);
    })

pub returns-then-is_there-clause-names : goal.returns-then-is_there-clause-names
returns-then-is_there-clause-names c =
    let all = take_all c.loop-path.path-index c.args.files.now c.loop-path-test.false in
    let end = rw all at c.loop-path.invariant in
    rw c.from_vec.ensures (record { ascending = end.ascending; exact = end.exact })

pub returns-else-is_there-clause-none : goal.returns-else-is_there-clause-none
returns-else-is_there-clause-none c below =
    let all = take_all c.loop-path.path-index c.args.files.now c.loop-path-test.false in
    let end = rw all at c.loop-path.invariant in
    false≢true (sym c.if-is_there.false ∙ end.there.1 below)
