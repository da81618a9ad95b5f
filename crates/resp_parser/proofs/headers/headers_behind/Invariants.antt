use Rattle.std.proofs.Common.{◌≡◌, take}
use Rattle.std.specs.Prelude.{option_to_list}
use Rattle.std.specs.List.{flat_map}
use Rattle.resp_parser.specs.Headers.{entry_behind, firsts}
use Rattle.resp_parser.proofs.headers.headers_behind.Given as goal

abbrev pub invariant-loop-header : goal.invariant-loop-header
invariant-loop-header l = l.made ≡ firsts (flat_map (λ h. option_to_list (entry_behind l.prefix h)) (take l.header-index l.header-items))
