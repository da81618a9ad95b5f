use Rattle.std.proofs.Common.{List, ℕ, take}
use Rattle.std.specs.Prelude.{AllPairs, Contains, IsTrue, ◌↔◌}
use Rattle.aws_world.specs.FileTree.{IsChild, HasBelow}
use Rattle.texts.specs.Order.{IsBefore}
use Rattle.aws_world.proofs.folder.names_below.Given as goal

-- the names that the files so far lead to
abbrev pub invariant-loop-path : goal.invariant-loop-path
invariant-loop-path l = record {
  ascending : AllPairs IsBefore l.names.items;
  exact : (name : List ℕ) → Contains l.names.items name ↔ IsChild l.folder (take l.path-index l.files) name;
  there : IsTrue l.is_there ↔ HasBelow l.folder (take l.path-index l.files);
}
