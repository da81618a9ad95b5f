use Rattle.std.proofs.Common.{◌≡◌, ◌+◌, ◌++◌, ◌∷◌, [], drop, refl, sym, ap, ◌∙◌, append_assoc}
use Rattle.std.specs.Prelude.{codes, bytes_eq}
use Rattle.sigv4.specs.Headers.{lowered, canonical_value, canonical_header, canonical_headers}
use Rattle.sigv4.proofs.HeaderSteps.{header_in, header_out}
use Rattle.sigv4.proofs.canonical_headers.push_canonical.Goals as goal

pub loop-name-preserved-then-is : goal.loop-name-preserved-then-is
loop-name-preserved-then-is c =
    let headers = c.args.headers.now in
    let index = c.loop-name.name-index in
    let item = c.loop-name-item.result in
    let lower : c.in_ok-lower.lower ≡ lowered item.0 = c.in_ok-lower.ensures ∙ ap lowered c.as_str.ensures.value in
    let is_it = ap (λ n. bytes_eq n (codes "authorization")) (sym lower) ∙ sym (c.is.ensures.ascii refl) ∙ c.if-is.true in
    ap (λ hs. c.loop-name.fields ++ hs) (sym (header_out headers index item c.loop-name-test.true c.loop-name-item.is is_it)) ∙ c.loop-name.invariant

pub loop-name-preserved : goal.loop-name-preserved
loop-name-preserved c =
    let headers = c.args.headers.now in
    let index = c.loop-name.name-index in
    let item = c.loop-name-item.result in
    let fields = c.loop-name.fields in
    let rest = canonical_headers (drop (index + 1) headers) in
    let lower : c.in_ok-lower.lower ≡ lowered item.0 = c.in_ok-lower.ensures ∙ ap lowered c.as_str.ensures.value in
    let value : c.in_ok-canonical_value.field-0 ≡ canonical_value item.1 = c.in_ok-canonical_value.ensures ∙ ap canonical_value c.as_str-in-loop-name.ensures.value in
    let other = ap (λ n. bytes_eq n (codes "authorization")) (sym lower) ∙ sym (c.is.ensures.ascii refl) ∙ c.if-is.false in
    let put : c.push.new.self ≡ fields ++ canonical_header item ∷ [] =
    c.in_ok-push.ensures.ok ∙ ap (λ n. fields ++ (n, c.in_ok-canonical_value.field-0) ∷ []) (c.lower.view_is ∙ lower)
    ∙ ap (λ v. fields ++ (lowered item.0, v) ∷ []) value in
    ap (λ hs. hs ++ rest) put ∙ append_assoc fields (canonical_header item ∷ []) rest
    ∙ ap (λ hs. fields ++ hs) (sym (header_in headers index item c.loop-name-test.true c.loop-name-item.is other)) ∙ c.loop-name.invariant
