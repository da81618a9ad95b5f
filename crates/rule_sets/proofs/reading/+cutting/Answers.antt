use Rattle.std.proofs.Common.{◌<◌, List, ◌∷◌, ◌++◌, [], refl, sym, ap, subst, ◌∙◌, arith}
use denote.Param.Weighed.{most}
use Rattle.std.specs.Prelude.{codes}
use Rattle.std.specs.Fmt.{decimal}
use Rattle.json_doc.specs.declared.doc.Doc.{size-Doc}
use Rattle.rule_sets.specs.declared.rule_set.Condition.{Condition}
use Rattle.rule_sets.specs.Cuts.{IsCut}
use Rattle.rule_sets.specs.Rules.{conditions_of, leaves_below, leaves_of, path_of}
use Rattle.rule_sets.proofs.CutParts.{cut-none, lone-cut, more-cut, on-ok, paths-wider, rest-more, rest-none, tree-cut, within-cut, within-longer}
use Rattle.rule_sets.proofs.Sizes.{size-at, size-items_at}
use Rattle.rule_sets.proofs.reading.+cutting.Goals as goal

pub cut_rule-cut_rules-requires : goal.cut_rule-cut_rules-requires
cut_rule-cut_rules-requires t c =
    let a = c.args.rules.now in
    let d = c.args.doc.now in
    let grown = c.in_ok-push.ensures.ok ∙ ap (λ (g : List Condition). a.conditions ++ g ∷ []) c.in_ok-read_conditions.ensures in
    let made = c.in_ok-path.ensures ∙ ap (λ n. c.args.path.now ++ n ∷ []) c.len.ensures in
    let size : most size-Doc c.items_at.result.now < size-Doc d =
    subst (λ ds. most size-Doc ds < size-Doc d) (sym c.items_at.ensures) (size-items_at (codes "rules") d) in (
      omega arith,
      (
        paths-wider a c.push.new.self (conditions_of d) c.requires.paths grown,
        within-longer a c.push.new.self (conditions_of d) c.args.path.now c.in_ok-path.path grown made c.requires.within,
      ),
    )

pub cut_rule-returns-then-has_type : goal.cut_rule-returns-then-has_type
cut_rule-returns-then-has_type t c =
    let a = c.args.rules.now in
    let d = c.args.doc.now in
    let grown = c.in_ok-push.ensures.ok ∙ ap (λ (g : List Condition). a.conditions ++ g ∷ []) c.in_ok-read_conditions.ensures in
    let made = c.in_ok-path.ensures ∙ ap (λ n. c.args.path.now ++ n ∷ []) c.len.ensures in
    let is = sym c.has_type.ensures ∙ c.if-has_type.true in
    on-ok c.cut_rules.result
    (tree-cut a c.cut_rules.new.rules c.push.new.self d c.args.path.now c.in_ok-path.path c.args.place c.in_ok-place.place c.items_at.result.now
    c.requires.paths c.requires.within grown made c.in_ok-place.ensures c.items_at.ensures is)
    c.cut_rules.ensures

pub cut_rule-returns : goal.cut_rule-returns
cut_rule-returns t c =
    let a = c.args.rules.now in
    let d = c.args.doc.now in
    let grown = c.in_ok-push.ensures.ok ∙ ap (λ (g : List Condition). a.conditions ++ g ∷ []) c.in_ok-read_conditions.ensures in
    let made = c.in_ok-path.ensures ∙ ap (λ n. c.args.path.now ++ n ∷ []) c.len.ensures in
    let is = sym c.has_type.ensures ∙ c.if-has_type.false in
    on-ok c.push-2.result
    (lone-cut a c.push.new.self c.push-2.new.self d c.args.path.now c.in_ok-path.path c.args.place c.in_ok-answer.answer
    c.requires.paths c.requires.within grown made c.in_ok-answer.ensures is)
    c.push-2.ensures.ok

pub cut_rules-loop-at-init : goal.cut_rules-loop-at-init
cut_rules-loop-at-init t c = ([], cut-none c.args.rules.now c.requires.paths, refl)

pub cut_rules-cut_rule-requires : goal.cut_rules-cut_rule-requires
cut_rules-cut_rule-requires t c =
    let small = size-at c.args.docs.now c.loop-at.at c.index-docs-at.result c.loop-at-test.true c.index-docs-at.is in (
      omega arith,
      (
        c.loop-at.invariant.1.paths,
        within-cut c.args.rules.now c.loop-at.rules c.loop-at.invariant.0 c.args.path.now c.loop-at.invariant.1 c.requires.within,
      ),
    )

pub cut_rules-loop-at-preserved : goal.cut_rules-loop-at-preserved
cut_rules-loop-at-preserved t c =
    let a = c.args.rules.now in
    let b = c.loop-at.rules in
    let d = c.index-docs-at.result in
    let path = path_of a.conditions c.args.path.now in
    let here = c.args.place.now ++ 46 ∷ decimal c.loop-at.at in
    let next : IsCut b c.cut_rule.new.rules (leaves_of (path_of b.conditions c.args.path.now) here d) =
    subst (λ place. IsCut b c.cut_rule.new.rules (leaves_of (path_of b.conditions c.args.path.now) place d)) c.in_ok-place.ensures c.in_ok-cut_rule.ensures in (
      c.loop-at.invariant.0 ++ leaves_of path here d,
      more-cut a b c.cut_rule.new.rules c.loop-at.invariant.0 c.args.path.now here d c.requires.within c.loop-at.invariant.1 next,
      rest-more path c.args.place.now c.args.docs.now c.loop-at.at d c.loop-at.invariant.0 (leaves_below path c.args.place.now 0 c.args.docs.now)
          c.loop-at-test.true c.index-docs-at.is c.loop-at.invariant.2,
    )

pub cut_rules-returns : goal.cut_rules-returns
cut_rules-returns t c =
    let path = path_of c.args.rules.now.conditions c.args.path.now in
    subst (IsCut c.args.rules.now c.loop-at.rules)
    (rest-none path c.args.place.now c.args.docs.now c.loop-at.at c.loop-at.invariant.0 (leaves_below path c.args.place.now 0 c.args.docs.now) c.loop-at-test.false c.loop-at.invariant.2)
    c.loop-at.invariant.1
