-- A message has one signed form at a moment: its query and its names are fixed.
use Rattle.std.proofs.Common.{◌≡◌, ℕ, List, sym, ap, ◌∙◌, unsigned_abs}
use Rattle.aws_world.specs.declared.message.Message.{Message}
use Rattle.sigv4.specs.Headers.{canonical_headers, AreSignedNames}
use Rattle.sigv4.specs.Signature.{stamped, authorized}
use Rattle.sigv4.specs.OneForm.{HasOneSignedForm}
use Rattle.sigv4.proofs.SortedSame.{same_query, same_names}

one_list : (m : Message) (xs ys : List (List ℕ)) → AreSignedNames (canonical_headers m.headers) xs → AreSignedNames (canonical_headers m.headers) ys → xs ≡ ys
one_list m xs ys x y =
    same_names xs ys x.ascending y.ascending (λ w. (λ h. (y.exact w).1 ((x.exact w).0 h), λ h. (x.exact w).1 ((y.exact w).0 h)))

pub has_one_signed_form : HasOneSignedForm
has_one_signed_form message signer now a b x y =
    let seconds = unsigned_abs now in
    let made = stamped message signer seconds in
    let query = same_query message.query x.query y.query x.query_is y.query_is in
    let names = one_list made x.names y.names x.names_are y.names_are in
    x.signed_is ∙ ap (λ (q : List (List ℕ × List ℕ)). authorized signer seconds made q x.names) query
    ∙ ap (authorized signer seconds made y.query) names ∙ sym y.signed_is
