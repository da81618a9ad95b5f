use Rattle.std.proofs.Common.{ℕ, List, map, take}
use Rattle.std.specs.Prelude.{AllPairs, Contains, ◌↔◌}
use Rattle.texts.specs.Order.{IsBefore}
use Rattle.sigv4.proofs.header_names.signed_names.Given as goal

-- the names of the headers so far
abbrev pub invariant-loop-name : goal.invariant-loop-name
invariant-loop-name l = record {
  ascending : AllPairs IsBefore l.names.items;
  exact : (name : List ℕ) → Contains l.names.items name ↔ Contains (map (λ h. h.0) (take l.name-index l.headers)) name;
}
