-- The parts of a tree, each with its value where it stands.
use Rattle.std.proofs.Common.{◌≡◌, List, [], ◌∷◌, map, Option, Ok, refl, ap}
use Rattle.shorthand.specs.declared.short.Short.{Short}
use Rattle.service_model.specs.declared.shape.Member.{Member}
use Rattle.service_model.specs.declared.shape.Shape.{Shape}
use Rattle.service_model.specs.declared.shape.ShapeId.{ShapeId}
use Rattle.texts.specs.declared.pairs.Pair.{Pair}
use Rattle.texts.specs.Calls.{◌>>=◌}
use Rattle.typed_value.specs.declared.typed.Typed.{Typed}
use Rattle.typed_value.specs.declared.typed.Typed.TheVariants as typed
use Rattle.typed_value.specs.Fits.{with_values}
use Rattle.typed_value.specs.Places.{member_named}
use Rattle.shape_values.specs.Faults.{Outcome, each_from, each_field, under, to_name, field}
use Rattle.shape_values.specs.Instants.{Instants}
use Rattle.shape_values.specs.ShortValues.{meant, item_value, member_value, fields_value}
use Rattle.shape_values.proofs.Each.{from-map}

abbrev pub item_of : Instants → List Shape → Option ShapeId → Short → Outcome Typed
item_of instants shapes item d = item_value item (meant instants shapes d)

abbrev pub entry_of : Instants → List Shape → Option ShapeId → Pair Short → Outcome Typed
entry_of instants shapes item p = item_value item (meant instants shapes p.value)

abbrev pub member_of : Instants → List Shape → List Member → Pair Short → Outcome Typed
member_of instants shapes members p = member_value (member_named p.key members) (meant instants shapes p.value)

module _ (instants : Instants) (shapes : List Shape) where
  pub items-whole : (item : Option ShapeId) (ds : List Short)
      → each_from (item_value item) 0 (map (meant instants shapes) ds) >>= (λ vs. Ok (typed.Items vs)) ≡ each_from (item_of instants shapes item) 0 ds >>= (λ vs. Ok (typed.Items vs))
  items-whole item ds = ap (λ r. r >>= (λ vs. Ok (typed.Items vs))) (from-map (item_value item) (meant instants shapes) 0 ds)

  entries-each : (item : Option ShapeId) (ps : List (Pair Short)) → each_field (λ p. item_value item p.value) (with_values (meant instants shapes) ps) ≡ each_field (entry_of instants shapes item) ps
  entries-each item [] = refl
  entries-each item (p ∷ ps) = ap (λ r. under (to_name p.key) (entry_of instants shapes item p) >>= (λ v. r >>= (λ qs. Ok (field p.key v ∷ qs)))) (entries-each item ps)

  pub entries-whole : (item : Option ShapeId) (ps : List (Pair Short))
      → fields_value (λ p. item_value item p.value) (with_values (meant instants shapes) ps) ≡ each_field (entry_of instants shapes item) ps >>= (λ qs. Ok (typed.Fields qs))
  entries-whole item ps = ap (λ r. r >>= (λ qs. Ok (typed.Fields qs))) (entries-each item ps)

  members-each : (members : List Member) (ps : List (Pair Short))
      → each_field (λ p. member_value (member_named p.key members) p.value) (with_values (meant instants shapes) ps) ≡ each_field (member_of instants shapes members) ps
  members-each members [] = refl
  members-each members (p ∷ ps) = ap (λ r. under (to_name p.key) (member_of instants shapes members p) >>= (λ v. r >>= (λ qs. Ok (field p.key v ∷ qs)))) (members-each members ps)

  pub members-whole : (members : List Member) (ps : List (Pair Short))
      → fields_value (λ p. member_value (member_named p.key members) p.value) (with_values (meant instants shapes) ps) ≡ each_field (member_of instants shapes members) ps >>= (λ qs. Ok (typed.Fields qs))
  members-whole members ps = ap (λ r. r >>= (λ qs. Ok (typed.Fields qs))) (members-each members ps)
