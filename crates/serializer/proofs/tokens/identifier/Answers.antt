use Rattle.std.proofs.Common.{◌≡◌, IfOk, refl, ap, inl, subst, ◌∙◌}
use Rattle.std.specs.Str.{chars}
use Rattle.std.proofs.lemmas.Str.{chars-IsAscii}
use Rattle.uuid.specs.declared.Variant.TheVariants.{RFC4122}
use Rattle.uuid.specs.declared.Version.TheVariants.{Random}
use Rattle.uuid.specs.Parts.{with_variant, with_version}
use Rattle.uuid.specs.Text.{hyphenated_text, lower}
use Rattle.uuid.proofs.TextLemmas.{hyphenated_ascii}
use Rattle.serializer.proofs.tokens.identifier.Goals as goal

pub returns : goal.returns
returns c =
    let id = c.hyphenated.result in
    let made = c.hyphenated.ensures ∙ c.into_uuid-id.ensures ∙ c.from_random_bytes.ensures.value in
    let text =
    ap chars c.encode_lower.ensures.text ∙ chars-IsAscii (hyphenated_text lower id) (hyphenated_ascii lower id (inl refl)) ∙ ap (hyphenated_text lower) made
    ∙ ap (λ bytes. hyphenated_text lower (with_version (with_variant bytes RFC4122) Random)) c.bytes_of.ensures in
    subst (λ t. IfOk c.from_str.result (λ made. made ≡ t)) text c.from_str.ensures
