-- Texts put one behind another.
use Rattle.std.proofs.Common.{◌≡◌, ℕ, List, ◌++◌, ap, ◌∙◌, append_assoc}

-- what was put so far with one more part
pub then : (out parts more mid : List ℕ) → mid ≡ out ++ parts → mid ++ more ≡ out ++ (parts ++ more)
then out parts more mid so_far = ap (λ s. s ++ more) so_far ∙ append_assoc out parts more
