use Rattle.std.proofs.Common.{◌≡◌, drop}
use Rattle.endpoint_rules.specs.Endpoints.{first_sigv4}
use Rattle.endpoint_rules.proofs.resolving.first_sigv4.Given as goal

-- none of those so far counts
abbrev pub invariant-loop-scheme : goal.invariant-loop-scheme
invariant-loop-scheme l = first_sigv4 (drop l.scheme-index l.schemes) ≡ first_sigv4 l.schemes
