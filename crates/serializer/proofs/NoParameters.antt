-- What a list or a map gives whose items have no shape.
use Rattle.std.proofs.Common.{◌≡◌, ℕ, List, [], ◌∷◌, None, refl}
use Rattle.std.specs.List.{flat_map}
use Rattle.service_model.specs.declared.shape.Shape.{Shape}
use Rattle.texts.specs.declared.pairs.Pair.{Pair}
use Rattle.typed_value.specs.declared.typed.Typed.{Typed}
use Rattle.serializer.specs.Queries.{item_parameters, entry_parameters}

pub no_items : (shapes : List Shape) (name : List ℕ) (vs : List Typed) → flat_map (item_parameters shapes None name) vs ≡ []
no_items shapes name [] = refl
no_items shapes name (v ∷ vs) = no_items shapes name vs

pub no_entries : (shapes : List Shape) (ps : List (Pair Typed)) → flat_map (entry_parameters shapes None) ps ≡ []
no_entries shapes [] = refl
no_entries shapes (p ∷ ps) = no_entries shapes ps
