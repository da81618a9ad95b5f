use Rattle.std.proofs.Common.{◌∙◌, sym}
use Rattle.endpoint_rules.proofs.HostLabels.{form_decides, no_label}
use Rattle.endpoint_rules.proofs.host_label.is_label.Goals as goal

pub returns-then-has_label_bytes : goal.returns-then-has_label_bytes
returns-then-has_label_bytes c =
    let e = form_decides c.args.text.now c.utf8.text (sym c.has_label_bytes.ensures ∙ c.if-has_label_bytes.true) in cc

pub returns-else-has_label_bytes : goal.returns-else-has_label_bytes
returns-else-has_label_bytes c =
    let e = no_label c.args.text.now c.utf8.text (sym c.has_label_bytes.ensures ∙ c.if-has_label_bytes.false) in cc
