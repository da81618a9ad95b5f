-- Refusals for want of memory, which are free.
use Rattle.std.specs.Prelude.{ℕ, Bool, true, false, List}
use Rattle.endpoint_rules.specs.declared.fault.EndpointFault.{EndpointFault}
use Rattle.endpoint_rules.specs.declared.fault.EndpointFault.TheVariants as fault
use Rattle.endpoint_rules.specs.declared.stop.Stop.{Stop}
use Rattle.endpoint_rules.specs.declared.stop.Stop.TheVariants as stop

abbrev pub stops_for_memory : Stop → Bool
stops_for_memory stop.OutOfMemory = true
stops_for_memory stop.Clash = false

abbrev pub lacks_memory : EndpointFault → Bool
lacks_memory fault.OutOfMemory = true
lacks_memory (fault.RuleError text) = false
lacks_memory fault.NoRule = false
lacks_memory fault.BadUrl = false
lacks_memory (fault.TypeClash place) = false

-- the fault of a leaf at a place that stopped
abbrev pub fault_at : List ℕ → Stop → EndpointFault
fault_at place stop.Clash = fault.TypeClash place
fault_at place stop.OutOfMemory = fault.OutOfMemory
