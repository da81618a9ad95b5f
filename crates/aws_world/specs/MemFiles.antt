-- What files in memory go by.
use Rattle.std.specs.Prelude.{ℕ, List}
use Rattle.aws_world.specs.declared.fault_plan.FaultPlan.{FaultPlan}
use Rattle.aws_world.specs.declared.mem_files.MemFiles.{MemFiles}

abbrev pub files_held : MemFiles → List (List ℕ × List ℕ)
files_held files = files.files

abbrev pub plan_of : MemFiles → FaultPlan
plan_of files = files.plan
