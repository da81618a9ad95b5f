use Rattle.std.proofs.Common.{◌≡◌, ◌∷◌, [], refl, ap, subst, ◌∙◌}
use Rattle.std.specs.Prelude.{IfOk, codes}
use Rattle.json_doc.specs.declared.doc.Doc as doc
use Rattle.texts.proofs.Texts.{chars_ascii}
use Rattle.resp_parser.specs.Kept.{pair_of, unknown_member}
use Rattle.resp_parser.proofs.unions.unknown_member.Goals as goal

pub returns : goal.returns
returns c =
    let text = ap doc.Str c.in_ok-copy.ensures in
    let named = c.in_ok-named.ensures ∙ ap (λ k. doc.Fields (pair_of k (doc.Str c.in_ok-copy.field-0) ∷ [])) (chars_ascii (codes "name") refl) ∙ ap (λ d. doc.Fields (pair_of (codes "name") d ∷ [])) text in
    let told = subst (λ k. IfOk c.object-2.result (λ made. made ≡ doc.Fields (pair_of k c.in_ok-named.named ∷ []))) (chars_ascii (codes "SDK_UNKNOWN_MEMBER") refl) c.object-2.ensures in
    subst (λ d. IfOk c.object-2.result (λ made. made ≡ doc.Fields (pair_of (codes "SDK_UNKNOWN_MEMBER") d ∷ []))) named told
