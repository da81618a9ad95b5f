use Rattle.std.proofs.Common.{◌≡◌, if◌then◌else◌, [], ◌∷◌, ◌++◌, sym, ap, subst, ◌∙◌}
use Rattle.std.specs.Prelude.{OnOk, codes}
use Rattle.serializer.specs.Inside.{asked}
use Rattle.serializer.specs.Messages.{needs_type}
use Rattle.serializer.proofs.messages.push_type.Goals as goal

pub returns : goal.returns
returns c =
    let r = asked c.args.request.now in
    let out = c.args.out.now in
    let needs = sym (c.needs_type.ensures ∙ ap (needs_type r) c.as_slice.ensures) ∙ c.if-not-needs_type.false in
    let kind = c.in_ok-push_ascii.ensures.ok ∙ ap (λ t. t ++ codes "application/json") c.new-json.ensures in
    let whole = ap (λ k. out ++ (codes "Content-Type", k) ∷ []) kind
    ∙ ap (λ b. if b then out ++ (codes "Content-Type", codes "application/json") ∷ [] else out) (sym needs) in
    subst (λ hs. OnOk c.push_header.result (c.push_header.new.out ≡ hs)) whole c.push_header.ensures
