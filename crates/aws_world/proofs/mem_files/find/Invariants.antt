use Rattle.std.proofs.Common.{◌≡◌, drop}
use Rattle.aws_world.specs.FileTree.{file_at}
use Rattle.aws_world.proofs.mem_files.find.Given as goal

-- none of the pairs so far has the path
abbrev pub invariant-loop-other : goal.invariant-loop-other
invariant-loop-other l = file_at l.path (drop l.other-index l.files) ≡ file_at l.path l.files
