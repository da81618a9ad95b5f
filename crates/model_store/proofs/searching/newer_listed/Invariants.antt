use Rattle.std.proofs.Common.{◌≡◌, ◌≤◌, ◌++◌, ℕ, List, length}
use Rattle.std.specs.Prelude.{IfSome}
use Rattle.model_store.proofs.Searches.{HasNone}
use Rattle.model_store.proofs.searching.newer_listed.Given as goal

-- those that are left are a front of the versions, and the others have no model file
abbrev pub invariant-loop-name : goal.invariant-loop-name
invariant-loop-name g l = record {
  kept : g.F.Files.told l.files ≡ g.F.Files.told l.fn.files;
  passed : ((back : List (List ℕ)) × (l.versions ≡ l.left ++ back) × IfSome (g.F.Files.told l.fn.files) (λ held. HasNone held l.folder back));
  later : g.F.Files.faults l.fn.files ≤ g.F.Files.faults l.files;
}

abbrev pub decreases-loop-name : goal.decreases-loop-name
decreases-loop-name g l = length l.left
