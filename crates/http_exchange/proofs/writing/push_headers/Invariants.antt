use Rattle.std.proofs.Common.{◌≡◌, ◌++◌, flat_map, drop}
use Rattle.http_exchange.specs.Wire.{line, header}
use Rattle.http_exchange.proofs.writing.push_headers.Given as goal

-- the lines so far and those that are due are all of them
abbrev pub invariant-loop-name : goal.invariant-loop-name
invariant-loop-name l =
    l.head ++ flat_map (λ h. line (header h)) (drop l.name-index l.headers) ≡ l.fn.head ++ flat_map (λ h. line (header h)) l.headers
