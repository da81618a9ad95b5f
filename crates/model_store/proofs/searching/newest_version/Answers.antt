use Rattle.std.proofs.Common.{◌+◌, refl, sym, ◌∙◌, subst, arith}
use Rattle.std.proofs.lemmas.Option.{slice_get_read}
use Rattle.model_store.specs.Inside.{IsNewer}
use Rattle.model_store.specs.Versions.{IsNewestOf, IsVersion, IsVersionAt}
use Rattle.model_store.proofs.Searches.{here_is, is_here, looked_at_all}
use Rattle.model_store.proofs.Told.{always_told, both_told, told}
use Rattle.model_store.proofs.Versions.{Before, newest_before_any, newest_goes}
use Rattle.model_store.proofs.searching.newest_version.Goals as goal

pub loop-folder-init : goal.loop-folder-init
loop-folder-init g c = record {
  kept = refl;
  found = always_told _ _ (λ held. newest_before_any (IsVersionAt held c.args.folders.now c.args.service.now));
  later = omega arith;
}

pub loop-folder-preserved : goal.loop-folder-preserved
loop-folder-preserved g c =
    let here = slice_get_read c.args.folders.now _ c.loop-folder.folder-index c.folder-item.result refl c.loop-folder-test.true c.folder-item.is in
    record {
      kept = c.newer_version.ensures.kept ∙ c.loop-folder.invariant.kept;
      found = both_told (λ held. IsNewestOf (Before c.loop-folder.folder-index (IsVersionAt held c.args.folders.now c.args.service.now)) c.loop-folder.newest)
          (λ held. IsNewer (IsVersion held c.folder-item.result c.args.service.now) c.loop-folder.newest c.in-Ok.newer) _ _ _ c.loop-folder.invariant.kept c.loop-folder.invariant.found c.in-Ok.ensures.found
          (λ held is newer. subst (IsNewestOf (Before (c.loop-folder.folder-index + 1) (IsVersionAt held c.args.folders.now c.args.service.now))) (sym c.or-newest.ensures)
          (newest_goes (IsVersionAt held c.args.folders.now c.args.service.now) (IsVersion held c.folder-item.result c.args.service.now) c.loop-folder.folder-index c.loop-folder.newest c.in-Ok.newer
          (here_is held c.args.folders.now c.args.service.now c.folder-item.result c.loop-folder.folder-index here)
          (is_here held c.args.folders.now c.args.service.now c.folder-item.result c.loop-folder.folder-index here) newer is));
      later = omega (arith, c.loop-folder.invariant.later, c.newer_version.ensures.cause.later);
    }

pub returns-clause-found : goal.returns-clause-found
returns-clause-found g c =
    told _ _ (g.F.Files.told c.args.files.now) c.loop-folder.invariant.found
    (λ held newest. looked_at_all held c.args.folders.now c.args.service.now c.loop-folder.folder-index c.loop-folder.newest c.loop-folder-test.false newest)
