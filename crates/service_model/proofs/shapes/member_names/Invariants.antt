use Rattle.std.proofs.Common.{◌≡◌, ◌||◌, ℕ, List, drop}
use Rattle.std.specs.List.{list_any}
use Rattle.std.specs.Str.{bytes_eq}
use Rattle.service_model.specs.Shapes.{names_in}
use Rattle.service_model.proofs.shapes.member_names.Given as goal

-- a name is among those so far or those left if and only if it is among all
abbrev pub invariant-loop-member : goal.invariant-loop-member
invariant-loop-member l = (name : List ℕ) →
    (list_any (bytes_eq name) l.names.keys || list_any (bytes_eq name) (names_in (drop l.member-index l.members))) ≡ list_any (bytes_eq name) (names_in l.fn.members)
