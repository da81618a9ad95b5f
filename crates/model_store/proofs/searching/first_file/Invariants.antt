use Rattle.std.proofs.Common.{◌≡◌, ◌≤◌, drop}
use Rattle.std.specs.Prelude.{IfSome}
use Rattle.model_store.specs.Versions.{first_at}
use Rattle.model_store.proofs.searching.first_file.Given as goal

-- the folders that are left have the first file of all
abbrev pub invariant-loop-folder : goal.invariant-loop-folder
invariant-loop-folder g l = record {
  kept : g.F.Files.told l.files ≡ g.F.Files.told l.fn.files;
  left : IfSome (g.F.Files.told l.fn.files) (λ held. first_at held (drop l.folder-index l.folders) l.tail ≡ first_at held l.folders l.tail);
  later : g.F.Files.faults l.fn.files ≤ g.F.Files.faults l.files;
}
