use Rattle.std.proofs.Common.{◌≡◌, ◌^◌, ◌-◌, Some, min, refl, sym, ap, ◌∙◌, arith, rules}
use Rattle.std.specs.Prelude.{codes}
use Rattle.rule_sets.specs.declared.judging.RuleKind.TheVariants as kind
use Rattle.rule_sets.specs.BadRules.{kind_of}
use Rattle.rule_sets.proofs.LeafCounts.{leaves-bare, leaves-endpoint, leaves-error, leaves-none, leaves-tree}
use Rattle.rule_sets.proofs.Sizes.{size-value}
use Rattle.rule_sets.proofs.judging.+counting.Goals as goal

pub leaves_of_fields-leaves_in-requires : goal.leaves_of_fields-leaves_in-requires
leaves_of_fields-leaves_in-requires t c =
    let small = size-value (codes "rules") c.args.fields.now c.in-Some.rules.now (sym (c.in-Some.ensures.ascii refl)) in
    (omega arith, tt)

pub leaves_of_fields-returns-in-Some : goal.leaves_of_fields-returns-in-Some
leaves_of_fields-returns-in-Some t c =
    let tree : kind_of c.args.fields.now ≡ Some kind.Tree = search rules in
    c.leaves_in.ensures
    ∙ ap (λ n. min n (2 ^ 64 - 1)) (sym (leaves-tree c.args.fields.now c.in-Some.rules.now tree (sym (c.in-Some.ensures.ascii refl))))

pub leaves_of_fields-returns-in-None-get : goal.leaves_of_fields-returns-in-None-get
leaves_of_fields-returns-in-None-get t c =
    let tree : kind_of c.args.fields.now ≡ Some kind.Tree = search rules in
    ap (λ n. min n (2 ^ 64 - 1)) (sym (leaves-bare c.args.fields.now tree (sym (c.in-None-get.ensures.ascii refl))))

pub leaves_of_fields-returns-in-None : goal.leaves_of_fields-returns-in-None
leaves_of_fields-returns-in-None t c = ap (λ n. min n (2 ^ 64 - 1)) (sym (leaves-none c.args.fields.now (sym c.in-None.ensures)))

pub leaves_of_fields-returns-in-Some-Endpoint : goal.leaves_of_fields-returns-in-Some-Endpoint
leaves_of_fields-returns-in-Some-Endpoint t c =
    let endpoint : kind_of c.args.fields.now ≡ Some kind.Endpoint = search rules in
    ap (λ n. min n (2 ^ 64 - 1)) (sym (leaves-endpoint c.args.fields.now endpoint))

pub leaves_of_fields-returns-in-Some-Error : goal.leaves_of_fields-returns-in-Some-Error
leaves_of_fields-returns-in-Some-Error t c =
    let error : kind_of c.args.fields.now ≡ Some kind.Error = search rules in
    ap (λ n. min n (2 ^ 64 - 1)) (sym (leaves-error c.args.fields.now error))
