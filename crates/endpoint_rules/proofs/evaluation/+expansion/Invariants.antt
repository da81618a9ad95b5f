use Rattle.std.proofs.Common.{◌≡◌, ◌++◌, drop, map}
use Rattle.std.specs.Prelude.{Ok}
use Rattle.texts.specs.Calls.{◌>>=◌}
use Rattle.texts.specs.Keys.{keys}
use Rattle.endpoint_rules.specs.Scopes.{seen_scope}
use Rattle.endpoint_rules.specs.Values.{all_of, all_fields, expanded_field, expanded_in}
use Rattle.endpoint_rules.proofs.evaluation.+expansion.Given as goal

abbrev pub invariant-expand_items-loop-item : goal.invariant-expand_items-loop-item
invariant-expand_items-loop-item l =
    (all_of (map (expanded_in (seen_scope l.scope)) (drop l.item-index l.items)) >>= (λ rest. Ok (l.made ++ rest)))
    ≡ all_of (map (expanded_in (seen_scope l.scope)) l.items)

abbrev pub invariant-expand_fields-loop-field : goal.invariant-expand_fields-loop-field
invariant-expand_fields-loop-field l = record {
  keys : keys l.made ++ keys (drop l.field-index l.field-items) ≡ keys l.field-items;
  values : (all_fields (map (expanded_field (seen_scope l.scope)) (drop l.field-index l.field-items)) >>= (λ rest. Ok (l.made ++ rest)))
      ≡ all_fields (map (expanded_field (seen_scope l.scope)) l.field-items);
}
