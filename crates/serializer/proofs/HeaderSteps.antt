-- The headers of members, member by member.
use Rattle.std.proofs.Common.{◌≡◌, ℕ, ◌+◌, ◌<◌, Bool, true, false, List, ◌∷◌, length, get_or, drop, sym, ap, ◌∙◌}
use Rattle.std.proofs.lemmas.List.{at_drop_more}
use Rattle.service_model.specs.declared.shape.Member.{Member}
use Rattle.texts.specs.Calls.{◌>>=◌, Unless}
use Rattle.serializer.specs.Faults.{Asked, Fields, with_member, headers_from}

-- a reason for another refusal
pub unless_for : (b : Bool) (P Q : Type 0) → Unless b P → (P → Q) → Unless b Q
unless_for true P Q u f = tt
unless_for false P Q u f = f u

pub headers-next : (asked : Asked) (hs : Fields) (ms : List Member) (i : ℕ) (m : Member) → i < length ms → m ≡ get_or ms i m
    → headers_from asked hs (drop i ms) ≡ (with_member asked hs m >>= (λ more. headers_from asked more (drop (i + 1) ms)))
headers-next asked hs ms i m within at =
    at_drop_more (headers_from asked hs) ms i m within ∙ ap (λ x. headers_from asked hs (x ∷ drop (i + 1) ms)) (sym at)
