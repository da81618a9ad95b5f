use Rattle.std.proofs.Common.{◌≡◌, ◌≤◌}
use Rattle.std.specs.Prelude.{IfSome}
use Rattle.model_store.specs.Versions.{IsNewestOf, IsVersionAt}
use Rattle.model_store.proofs.Versions.{Before}
use Rattle.model_store.proofs.searching.newest_version.Given as goal

-- the newest version in the folders so far
abbrev pub invariant-loop-folder : goal.invariant-loop-folder
invariant-loop-folder g l = record {
  kept : g.F.Files.told l.files ≡ g.F.Files.told l.fn.files;
  found : IfSome (g.F.Files.told l.fn.files) (λ held. IsNewestOf (Before l.folder-index (IsVersionAt held l.folders l.service)) l.newest);
  later : g.F.Files.faults l.fn.files ≤ g.F.Files.faults l.files;
}
