use Rattle.std.proofs.Common.{◌≡◌, ◌++◌, drop}
use Rattle.sigv4.specs.Headers.{header_lines}
use Rattle.sigv4.proofs.canonical_headers.CanonicalHeaders.push_lines.Given as goal

-- the lines so far and those that are due are all of them
abbrev pub invariant-loop-name : goal.invariant-loop-name
invariant-loop-name l =
    l.out ++ header_lines l.self.fields (drop l.name-index l.self.names) ≡ l.fn.out ++ header_lines l.self.fields l.self.names
