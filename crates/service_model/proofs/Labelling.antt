-- Labels and the members that they name.
use Rattle.std.proofs.Common.{◌≡◌, ℕ, ◌==◌, Bool, false, ◌&&◌, List, [], ◌∷◌, length, Option, None, Some, bytes_eq, refl, sym, ap₂, ◌∙◌}
use Rattle.std.specs.List.{list_any, list_all}
use Rattle.json_doc.specs.declared.doc.Doc.{Doc}
use Rattle.texts.specs.declared.pairs.Pair.{Pair}
use Rattle.service_model.specs.declared.labelled.LabelUse.{LabelUse}
use Rattle.service_model.specs.Operations.{is_labelled, are_named}

-- without members no label names one
pub none_named : (place : LabelUse) (labels : List (List ℕ)) → (length labels == 0) ≡ false → false ≡ are_named place None labels
none_named place [] some = absurd (cc)
none_named place (label ∷ labels) some = refl

-- names that hold what members have as labels
pub all_named : (place : LabelUse) (members : List (Pair Doc)) (names labels : List (List ℕ))
    → ((name : List ℕ) → list_any (bytes_eq name) names ≡ list_any (is_labelled place name) members)
    → list_all (λ text. list_any (bytes_eq text) names) labels ≡ are_named place (Some members) labels
all_named place members names [] same = refl
all_named place members names (label ∷ labels) same = ap₂ (λ a b. a && b) (same label) (all_named place members names labels same)

-- what is known of labels and members, told of equal ones
pub named_as : (place : LabelUse) (members others : Option (List (Pair Doc))) (labels more : List (List ℕ)) (b : Bool) → members ≡ others → labels ≡ more
    → b ≡ are_named place members labels → are_named place others more ≡ b
named_as place members others labels more b same alike is = sym (is ∙ ap₂ (are_named place) same alike)
