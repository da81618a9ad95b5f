-- What faults of endpoints say of themselves.
use Rattle.std.specs.Prelude.{ℕ, List, ◌++◌, codes, encode_utf8_all}
use Rattle.endpoint_rules.specs.declared.fault.EndpointFault.{EndpointFault}
use Rattle.endpoint_rules.specs.declared.fault.EndpointFault.TheVariants.{RuleError, NoRule, BadUrl, TypeClash, OutOfMemory}

abbrev pub endpoint_fault_text : EndpointFault → List ℕ
endpoint_fault_text (RuleError text) = encode_utf8_all text
endpoint_fault_text NoRule = codes "no rule holds"
endpoint_fault_text BadUrl = codes "no URL of an endpoint"
endpoint_fault_text (TypeClash place) = codes "value of another kind at " ++ encode_utf8_all place
endpoint_fault_text OutOfMemory = codes "out of memory"
