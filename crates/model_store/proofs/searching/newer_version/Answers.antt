use Rattle.std.proofs.Common.{◌≡◌, sym, ap, ◌∙◌, subst}
use Rattle.std.specs.Prelude.{AllPairs, Contains, IfOk}
use Rattle.aws_world.specs.FileTree.{IsChild, IsListing}
use Rattle.texts.specs.Order.{IsBefore}
use Rattle.model_store.specs.Inside.{IsListed, IsNewer, IsPathAmong}
use Rattle.model_store.specs.Versions.{below, model_path}
use Rattle.model_store.specs.Versions.IsLookedAtIn.{at_version}
use Rattle.model_store.proofs.Searches.{listed_versions, no_service}
use Rattle.model_store.proofs.Told.{always_told, both_told, if_ok, other_path, told}
use Rattle.model_store.proofs.searching.newer_version.Goals as goal

pub returns-then-not-is_plain-clause-found : goal.returns-then-not-is_plain-clause-found
returns-then-not-is_plain-clause-found g c =
    always_told _ (g.F.Files.told c.args.files.now)
    (λ held. no_service held c.args.folder.now c.args.service.now c.args.newest.now (sym c.is_plain.ensures ∙ c.if-not-is_plain.true))

pub returns-clause-found : goal.returns-clause-found
returns-clause-found g c =
    let path : c.in_ok-path.path ≡ below c.args.folder.now c.args.service.now = c.in_ok-path.ensures ∙ ap (below c.args.folder.now) c.as_str.ensures.value in
    both_told (λ held. IsListing c.in_ok-path.path held c.in-Ok.versions) (λ held. AllPairs IsBefore c.as_slice.result.now → IfOk c.newer_listed.result (IsNewer (IsListed held c.in_ok-path.path c.as_slice.result.now) c.args.newest.now)) _ _ _
    c.in-Ok.ensures.kept c.in-Ok.ensures.names c.newer_listed.ensures.found
    (λ held below_it newer.
    let listing = subst (IsListing c.in_ok-path.path held) (sym c.as_slice.ensures) below_it in
    if_ok _ _ c.newer_listed.result (newer listing.ascending)
    (λ answer is. listed_versions held c.args.folder.now c.args.service.now c.in_ok-path.path c.as_slice.result.now c.args.newest.now answer (sym c.is_plain.ensures ∙ c.if-not-is_plain.false) path listing is))

pub returns-clause-path : goal.returns-clause-path
returns-clause-path g c =
    let path : c.in_ok-path.path ≡ below c.args.folder.now c.args.service.now = c.in_ok-path.ensures ∙ ap (below c.args.folder.now) c.as_str.ensures.value in
    other_path (IsPathAmong c.in_ok-path.path c.as_slice.result.now) _ c.newer_listed.result c.newer_listed.ensures.path
    (λ at among.
    at_version (
      among.0,
      told _ _ (g.F.Files.told c.args.files.now) c.in-Ok.ensures.names
          (λ held listing. subst (λ p. IsChild p held among.0) path ((listing.exact among.0).0 (subst (λ all. Contains all among.0) c.as_slice.ensures among.1))),
      among.2 ∙ ap (λ p. model_path p among.0) path,
    ))
