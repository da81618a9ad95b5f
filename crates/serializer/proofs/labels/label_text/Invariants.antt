use Rattle.std.proofs.Common.{◌≡◌, drop}
use Rattle.serializer.specs.Labels.{label_text}
use Rattle.serializer.proofs.labels.label_text.Given as goal

-- the members that are left tell
abbrev pub invariant-loop-member : goal.invariant-loop-member
invariant-loop-member l =
    label_text l.model.shapes l.place (drop l.member-index l.members) l.fields l.name ≡ label_text l.model.shapes l.place l.members l.fields l.name
