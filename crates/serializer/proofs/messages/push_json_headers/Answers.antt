use Rattle.std.proofs.Common.{◌≡◌, [], ◌∷◌, ◌++◌, append_assoc, ap, subst, ◌∙◌}
use Rattle.std.specs.Prelude.{OnOk, codes}
use Rattle.serializer.specs.Inside.{asked}
use Rattle.serializer.specs.Messages.{target_of, json_type}
use Rattle.serializer.proofs.messages.push_json_headers.Goals as goal

pub returns : goal.returns
returns c =
    let r = asked c.args.request.now in
    let out = c.args.out.now in
    let first = c.in_ok-push_header.ensures ∙ ap (λ t. out ++ (codes "X-Amz-Target", t) ∷ []) c.in_ok-target_of.ensures in
    let both = ap (λ hs. hs ++ (codes "Content-Type", c.in_ok-json_type.field-0) ∷ []) first
    ∙ ap (λ k. (out ++ (codes "X-Amz-Target", target_of r) ∷ []) ++ (codes "Content-Type", k) ∷ []) c.in_ok-json_type.ensures
    ∙ append_assoc out ((codes "X-Amz-Target", target_of r) ∷ []) ((codes "Content-Type", json_type r) ∷ []) in
    subst (λ hs. OnOk c.push_header-2.result (c.push_header-2.new.out ≡ hs)) both c.push_header-2.ensures
