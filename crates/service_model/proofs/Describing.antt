-- What a model says of its whole service, part by part.
use Rattle.std.proofs.Common.{◌≡◌, ℕ, Bool, List, Option, Result, Ok, ap, ◌∙◌}
use Rattle.model_files.specs.declared.fault.ModelFault.{ModelFault}
use Rattle.service_model.specs.declared.metadata.Described.{Described}
use Rattle.service_model.specs.declared.metadata.Protocol.{Protocol}

abbrev pub described : Protocol → List ℕ → List ℕ → List ℕ → Option (List ℕ) → Bool → Result Described ModelFault
described protocol version prefix endpoint signing by_v4 =
    Ok (record { metadata = record { protocol = protocol; json_version = version; target_prefix = prefix; endpoint_prefix = endpoint; signing_name = signing }; signs_by_v4 = by_v4 })

pub described_as : (protocol : Protocol) (version version2 prefix prefix2 endpoint endpoint2 : List ℕ) (signing signing2 : Option (List ℕ)) (by_v4 by_v42 : Bool)
    → version ≡ version2 → prefix ≡ prefix2 → endpoint ≡ endpoint2 → signing ≡ signing2 → by_v4 ≡ by_v42
    → described protocol version prefix endpoint signing by_v4 ≡ described protocol version2 prefix2 endpoint2 signing2 by_v42
described_as protocol version version2 prefix prefix2 endpoint endpoint2 signing signing2 by_v4 by_v42 v p e s b =
    ap (λ x. described protocol x prefix endpoint signing by_v4) v
    ∙ ap (λ x. described protocol version2 x endpoint signing by_v4) p
    ∙ ap (λ x. described protocol version2 prefix2 x signing by_v4) e
    ∙ ap (λ x. described protocol version2 prefix2 endpoint2 x by_v4) s
    ∙ ap (λ x. described protocol version2 prefix2 endpoint2 signing2 x) b
