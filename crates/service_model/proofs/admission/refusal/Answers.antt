use Rattle.std.proofs.Common.{◌≡◌, IsTrue, sym, ap, ◌∙◌, inl, inr, refl}
use Rattle.std.proofs.lemmas.Bool.{both_ways, iff_false}
use Rattle.std.proofs.lemmas.Result.{IfOk-weaker}
use Rattle.service_model.specs.declared.operation.Refusal.TheVariants as refusal
use Rattle.std.specs.Option.{option_map}
use Rattle.service_model.specs.Admission.{has_stray_json, has_blob_body, IsRefusal}
use Rattle.service_model.specs.Inside.{shared_at}
use Rattle.service_model.proofs.Refusals.{has_part, has_no_part}
use Rattle.service_model.proofs.admission.refusal.Goals as goal

pub returns-then-row : goal.returns-then-row
returns-then-row c =
    inr (
      iff_false c.is_other.ensures c.if-is_other.false,
      inr (
        has_no_part c.args.shapes.now (λ shape. IsTrue shape.events) c.args.findings.now.events.items c.requires.events c.args.row.now (sym c.has_marked.ensures ∙ c.if-has_marked.false),
        inl (c.if-row.true, refl),
      ),
    )

pub returns-then-row-2 : goal.returns-then-row-2
returns-then-row-2 c =
    inr (
      iff_false c.is_other.ensures c.if-is_other.false,
      inr (
        has_no_part c.args.shapes.now (λ shape. IsTrue shape.events) c.args.findings.now.events.items c.requires.events c.args.row.now (sym c.has_marked.ensures ∙ c.if-has_marked.false),
        inr (
          both_ways c.args.row.now.is_signed_otherwise c.if-row.false,
          inl (c.if-row-2.true, refl),
        ),
      ),
    )

pub returns-then-row-3 : goal.returns-then-row-3
returns-then-row-3 c =
    inr (
      iff_false c.is_other.ensures c.if-is_other.false,
      inr (
        has_no_part c.args.shapes.now (λ shape. IsTrue shape.events) c.args.findings.now.events.items c.requires.events c.args.row.now (sym c.has_marked.ensures ∙ c.if-has_marked.false),
        inr (
          both_ways c.args.row.now.is_signed_otherwise c.if-row.false,
          inr (
            both_ways c.args.row.now.needs_checksum c.if-row-2.false,
            inl (c.if-row-3.true, refl),
          ),
        ),
      ),
    )

pub returns-then-has_marked-2 : goal.returns-then-has_marked-2
returns-then-has_marked-2 c =
    inr (
      iff_false c.is_other.ensures c.if-is_other.false,
      inr (
        has_no_part c.args.shapes.now (λ shape. IsTrue shape.events) c.args.findings.now.events.items c.requires.events c.args.row.now (sym c.has_marked.ensures ∙ c.if-has_marked.false),
        inr (
          both_ways c.args.row.now.is_signed_otherwise c.if-row.false,
          inr (
            both_ways c.args.row.now.needs_checksum c.if-row-2.false,
            inr (
              both_ways c.args.row.now.needs_discovery c.if-row-3.false,
              inl (has_part c.args.shapes.now (λ shape. IsTrue (has_stray_json c.args.shapes.now shape)) c.args.findings.now.json_values.items c.requires.json_values c.args.row.now (sym c.has_marked-2.ensures ∙ c.if-has_marked-2.true), refl),
            ),
          ),
        ),
      ),
    )

pub returns-then-has_blob_body : goal.returns-then-has_blob_body
returns-then-has_blob_body c =
    inr (
      iff_false c.is_other.ensures c.if-is_other.false,
      inr (
        has_no_part c.args.shapes.now (λ shape. IsTrue shape.events) c.args.findings.now.events.items c.requires.events c.args.row.now (sym c.has_marked.ensures ∙ c.if-has_marked.false),
        inr (
          both_ways c.args.row.now.is_signed_otherwise c.if-row.false,
          inr (
            both_ways c.args.row.now.needs_checksum c.if-row-2.false,
            inr (
              both_ways c.args.row.now.needs_discovery c.if-row-3.false,
              inr (
                has_no_part c.args.shapes.now (λ shape. IsTrue (has_stray_json c.args.shapes.now shape)) c.args.findings.now.json_values.items c.requires.json_values c.args.row.now (sym c.has_marked-2.ensures ∙ c.if-has_marked-2.false),
                inl (sym c.has_blob_body.ensures ∙ c.if-has_blob_body.true, refl),
              ),
            ),
          ),
        ),
      ),
    )

pub returns : goal.returns
returns c =
    IfOk-weaker c.shared_refusal.result (λ answer. answer ≡ option_map refusal.SameArgument (shared_at c.args.findings.now.shared.items c.args.row.now.input)) (IsRefusal c.args.metadata.now.protocol c.args.shapes.now c.args.row.now)
    (λ answer is.
    inr (
      iff_false c.is_other.ensures c.if-is_other.false,
      inr (
        has_no_part c.args.shapes.now (λ shape. IsTrue shape.events) c.args.findings.now.events.items c.requires.events c.args.row.now (sym c.has_marked.ensures ∙ c.if-has_marked.false),
        inr (
          both_ways c.args.row.now.is_signed_otherwise c.if-row.false,
          inr (
            both_ways c.args.row.now.needs_checksum c.if-row-2.false,
            inr (
              both_ways c.args.row.now.needs_discovery c.if-row-3.false,
              inr (
                has_no_part c.args.shapes.now (λ shape. IsTrue (has_stray_json c.args.shapes.now shape)) c.args.findings.now.json_values.items c.requires.json_values c.args.row.now (sym c.has_marked-2.ensures ∙ c.if-has_marked-2.false),
                inr (
                  both_ways (has_blob_body c.args.shapes.now c.args.row.now.output) (sym c.has_blob_body.ensures ∙ c.if-has_blob_body.false),
                  is ∙ ap (option_map refusal.SameArgument) c.requires.shared,
                ),
              ),
            ),
          ),
        ),
      ),
    ))
    c.shared_refusal.ensures
