use Rattle.std.proofs.Common.{◌≡◌, sym, ap, ◌∙◌, refl, arith, drop}
use Rattle.aws_world.specs.FileTree.{file_at}
use Rattle.model_store.specs.Versions.{below, first_at, IsFileAt}
use Rattle.model_store.proofs.FirstFiles.{none_at_all, none_here, some_here}
use Rattle.model_store.proofs.Told.{always_told, both_told, told}
use Rattle.model_store.proofs.searching.first_file.Goals as goal

pub loop-folder-init : goal.loop-folder-init
loop-folder-init g c = record { kept = refl; left = always_told _ _ (λ held. refl); later = omega arith }

pub loop-folder-preserved : goal.loop-folder-preserved
loop-folder-preserved g c =
    let path : c.in_ok-path.path ≡ below c.folder-item.result c.args.tail.now = c.in_ok-path.ensures ∙ ap (below c.folder-item.result) c.as_str.ensures.value in
    record {
      kept = c.read.ensures.kept ∙ c.loop-folder.invariant.kept;
      left = both_told (λ held. first_at held (drop c.loop-folder.folder-index c.args.folders.now) c.args.tail.now ≡ first_at held c.args.folders.now c.args.tail.now)
          (λ held. IsFileAt (file_at c.in_ok-path.path held) c.in-Ok-None.field-0) _ _ _ c.loop-folder.invariant.kept c.loop-folder.invariant.left c.in-Ok-None.ensures.found
          (λ held left here. none_here held c.args.folders.now c.args.tail.now c.folder-item.result c.in_ok-path.path c.loop-folder.folder-index c.in-Ok-None.field-0
          c.loop-folder-test.true c.folder-item.is path here c.in-Ok-None.field-0-is left);
      later = omega (arith, c.loop-folder.invariant.later, c.read.ensures.cause.later);
    }

pub returns-in-Ok-Some-clause-found : goal.returns-in-Ok-Some-clause-found
returns-in-Ok-Some-clause-found g c =
    let path : c.in_ok-path.path ≡ below c.folder-item.result c.args.tail.now = c.in_ok-path.ensures ∙ ap (below c.folder-item.result) c.as_str.ensures.value in
    both_told (λ held. first_at held (drop c.loop-folder.folder-index c.args.folders.now) c.args.tail.now ≡ first_at held c.args.folders.now c.args.tail.now)
    (λ held. IsFileAt (file_at c.in_ok-path.path held) c.in-Ok-Some.field-0) _ _ _ c.loop-folder.invariant.kept c.loop-folder.invariant.left c.in-Ok-Some.ensures.found
    (λ held left here. some_here held c.args.folders.now c.args.tail.now c.folder-item.result c.in_ok-path.path c.loop-folder.folder-index c.in-Ok-Some.field-0 _
    c.loop-folder-test.true c.folder-item.is path here c.in-Ok-Some.field-0-is left)

pub returns-clause-found : goal.returns-clause-found
returns-clause-found g c =
    told _ _ (g.F.Files.told c.args.files.now) c.loop-folder.invariant.left
    (λ held left. none_at_all held c.args.folders.now c.args.tail.now c.loop-folder.folder-index c.loop-folder-test.false left)
