use Rattle.std.proofs.Common.{◌≡◌, drop}
use Rattle.endpoint_rules.specs.HostLabels.{are_labels}
use Rattle.endpoint_rules.proofs.host_label.are_labels.Given as goal

-- those so far are labels
abbrev pub invariant-loop-part : goal.invariant-loop-part
invariant-loop-part l = are_labels (drop l.part-index l.parts) ≡ are_labels l.parts
