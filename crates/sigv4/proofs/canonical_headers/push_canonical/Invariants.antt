use Rattle.std.proofs.Common.{◌≡◌, ◌++◌, drop}
use Rattle.sigv4.specs.Headers.{canonical_headers}
use Rattle.sigv4.proofs.canonical_headers.push_canonical.Given as goal

-- the headers so far and those that are due are all of them
abbrev pub invariant-loop-name : goal.invariant-loop-name
invariant-loop-name l = l.fields ++ canonical_headers (drop l.name-index l.headers) ≡ l.fn.fields ++ canonical_headers l.headers
