use Rattle.std.proofs.Common.{[], refl, sym, ◌∙◌, subst, append-nil, arith}
use Rattle.std.specs.Prelude.{Contains}
use Rattle.aws_world.specs.FileTree.{file_at}
use Rattle.model_store.specs.Versions.{IsFileAt}
use Rattle.model_store.proofs.Orders.{in_front, contains_middle}
use Rattle.model_store.proofs.Searches.{HasNone, all_passed, file_here, is_newer, none_here, none_more, none_newer, none_of_none, passed_all}
use Rattle.model_store.proofs.Told.{always_told, both_told, fault_at, told}
use Rattle.model_store.proofs.searching.newer_listed.Goals as goal

pub loop-name-init : goal.loop-name-init
loop-name-init g c = record {
  kept = refl;
  passed = ([], sym (append-nil _), always_told _ _ (λ held. none_of_none held c.args.folder.now));
  later = omega arith;
}

pub loop-name-preserved : goal.loop-name-preserved
loop-name-preserved g c =
    let passed = c.loop-name.invariant.passed in
    record {
      kept = c.read.ensures.kept ∙ c.loop-name.invariant.kept;
      passed = (
        _,
        in_front _ _ _ _ _ passed.1 c.in-Some.ensures.cases.0,
        both_told (λ held. HasNone held c.args.folder.now passed.0) (λ held. IsFileAt (file_at c.in_ok-path.path held) c.in-Ok-None.field-0) _ _ _ c.loop-name.invariant.kept passed.2 c.in-Ok-None.ensures.found
            (λ held none here. none_more held c.args.folder.now passed.0 c.in-Some.name.now
            (none_here held c.args.folder.now c.in-Some.name.now _ _ c.in_ok-path.ensures here c.in-Ok-None.field-0-is) none),
      );
      later = omega (arith, c.loop-name.invariant.later, c.read.ensures.cause.later);
    }

pub returns-then-not-comes_after-clause-found : goal.returns-then-not-comes_after-clause-found
returns-then-not-comes_after-clause-found g c =
    let passed = c.loop-name.invariant.passed in
    told (λ held. HasNone held c.args.folder.now passed.0) _ _ passed.2
    (λ held none ascending. none_newer held c.args.folder.now c.args.versions.now c.in-Some.smaller.now passed.0 c.in-Some.name.now c.args.newest.now
    (in_front _ _ _ _ _ passed.1 c.in-Some.ensures.cases.0) ascending none (c.if-not-comes_after.ensures.up_to refl))

pub returns-in-Ok-Some-clause-found : goal.returns-in-Ok-Some-clause-found
returns-in-Ok-Some-clause-found g c =
    let passed = c.loop-name.invariant.passed in
    both_told (λ held. HasNone held c.args.folder.now passed.0) (λ held. IsFileAt (file_at c.in_ok-path.path held) c.in-Ok-Some.field-0) _ _ _ c.loop-name.invariant.kept passed.2 c.in-Ok-Some.ensures.found
    (λ held none here ascending. is_newer held c.args.folder.now c.args.versions.now c.in-Some.smaller.now passed.0 c.in-Some.name.now c.args.newest.now
    c.in_ok-named_version-in-Ok-Some.field-0 (in_front _ _ _ _ _ passed.1 c.in-Some.ensures.cases.0) ascending none (c.if-not-comes_after.ensures.after refl)
    c.in_ok-named_version-in-Ok-Some.ensures.name
    (file_here held c.args.folder.now c.in-Some.name.now _ _ _ _ c.in_ok-path.ensures here c.in-Ok-Some.field-0-is c.in_ok-named_version-in-Ok-Some.ensures.file))

pub returns-in-Err-clause-path : goal.returns-in-Err-clause-path
returns-in-Err-clause-path g c =
    let versions = in_front _ _ _ _ _ c.loop-name.invariant.passed.1 c.in-Some.ensures.cases.0 in
    fault_at _ _ c.in-Err.refusal c.in-Err.ensures.fault
    (λ path is. (
      c.in-Some.name.now,
      subst (λ all. Contains all c.in-Some.name.now) (sym versions) (contains_middle _ _ _),
      is ∙ c.in_ok-path.ensures,
    ))

pub returns-clause-found : goal.returns-clause-found
returns-clause-found g c =
    let passed = c.loop-name.invariant.passed in
    told (λ held. HasNone held c.args.folder.now passed.0) _ _ passed.2
    (λ held none ascending. all_passed held c.args.folder.now c.args.versions.now c.args.newest.now
    (passed_all held c.args.folder.now c.args.versions.now _ passed.0 c.in_default.ensures.cases passed.1 none))
