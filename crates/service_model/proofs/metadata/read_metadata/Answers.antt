use Rattle.std.proofs.Common.{codes, ap, sym, ◌∙◌}
use Rattle.model_files.proofs.Each.{fails_first}
use Rattle.service_model.specs.Metadata.{metadata_of, json_text}
use Rattle.service_model.proofs.Describing.{described_as}
use Rattle.service_model.proofs.Sequences.{then_fails, then_gives, came, ends}
use Rattle.service_model.proofs.metadata.read_metadata.Goals as goal

pub returns-in_err-endpoint_prefix : goal.returns-in_err-endpoint_prefix
unfolding metadata_of
returns-in_err-endpoint_prefix c =
    ends (λ x. x) _ c.from_residual-in_err-endpoint_prefix.result c.in_err-endpoint_prefix.field-0.0 (came c.from_residual-in_err-endpoint_prefix.result c.in_err-endpoint_prefix.field-0.0 c.from_residual-in_err-endpoint_prefix.ensures)
    (then_fails _ _ _ c.in_err-endpoint_prefix.field-0.0 c.in_ok-protocol.ensures (then_fails _ _ _ c.in_err-endpoint_prefix.field-0.0 (ap (λ b. json_text b (codes "jsonVersion") c.args.fields.now) (sym c.is_json-is_json.ensures) ∙ c.in_ok-json_version.ensures) (then_fails _ _ _ c.in_err-endpoint_prefix.field-0.0 (ap (λ b. json_text b (codes "targetPrefix") c.args.fields.now) (sym c.is_json-is_json.ensures) ∙ c.in_ok-target_prefix.ensures) (fails_first c.in_err-endpoint_prefix.field-0.0 _ _ c.in_err-endpoint_prefix.ensures))))

pub returns-in_err-signature : goal.returns-in_err-signature
unfolding metadata_of
returns-in_err-signature c =
    ends (λ x. x) _ c.from_residual-in_err-signature.result c.in_err-signature.field-0.0 (came c.from_residual-in_err-signature.result c.in_err-signature.field-0.0 c.from_residual-in_err-signature.ensures)
    (then_fails _ _ _ c.in_err-signature.field-0.0 c.in_ok-protocol.ensures (then_fails _ _ _ c.in_err-signature.field-0.0 (ap (λ b. json_text b (codes "jsonVersion") c.args.fields.now) (sym c.is_json-is_json.ensures) ∙ c.in_ok-json_version.ensures) (then_fails _ _ _ c.in_err-signature.field-0.0 (ap (λ b. json_text b (codes "targetPrefix") c.args.fields.now) (sym c.is_json-is_json.ensures) ∙ c.in_ok-target_prefix.ensures) (then_fails _ _ _ c.in_err-signature.field-0.0 c.in_ok-endpoint_prefix.ensures (then_fails _ _ _ c.in_err-signature.field-0.0 c.in_ok-signing_name.ensures (fails_first c.in_err-signature.field-0.0 _ _ c.in_err-signature.ensures))))))

pub returns : goal.returns
unfolding metadata_of
returns c =
    then_gives _ _ _ _ c.in_ok-protocol.ensures
    (then_gives _ _ _ _ (ap (λ b. json_text b (codes "jsonVersion") c.args.fields.now) (sym c.is_json-is_json.ensures) ∙ c.in_ok-json_version.ensures)
    (then_gives _ _ _ _ (ap (λ b. json_text b (codes "targetPrefix") c.args.fields.now) (sym c.is_json-is_json.ensures) ∙ c.in_ok-target_prefix.ensures)
    (then_gives _ _ _ _ c.in_ok-endpoint_prefix.ensures
    (then_gives _ _ _ _ c.in_ok-signing_name.ensures
    (then_gives _ _ _ _ c.in_ok-signature.ensures
    (described_as c.in_ok-protocol.protocol _ _ _ _ _ _ _ _ _ _ (sym c.json_version.view_is) (sym c.target_prefix.view_is) (sym c.in_ok-copy.ensures) (sym c.in_ok-copied.ensures) (sym c.is_text.ensures)))))))
