-- What a sink in memory holds and goes by.
use Rattle.std.specs.Prelude.{ℕ, if◌then◌else◌, Option, Some, None, List}
use Rattle.aws_world.specs.declared.fault_plan.FaultPlan.{FaultPlan}
use Rattle.aws_world.specs.declared.mem_sink.MemSink.{MemSink}

-- the bytes taken, where it tells them
abbrev pub bytes_taken : MemSink → Option (List ℕ)
bytes_taken sink = if sink.tells then Some sink.bytes.items else None

abbrev pub plan_of : MemSink → FaultPlan
plan_of sink = sink.plan
