-- Pairs of a key and a value, as lists.
use Rattle.std.specs.Prelude.{◌≡◌, ℕ, if◌then◌else◌, List, [], ◌∷◌, map, Option, None, Some, bytes_eq}
use Rattle.texts.specs.declared.pairs.Pair.{Pair}

-- the keys in their order
abbrev pub keys : {T : Type 0} → List (Pair T) → List (List ℕ)
keys ps = map (λ p. p.key) ps

-- the key is none of these
abbrev pub IsNew : List ℕ → List (List ℕ) → Type 0
IsNew k [] = Unit {0}
IsNew k (j ∷ js) = (k ≡ j → ⊥) × IsNew k js

-- no key stands twice
abbrev pub IsDistinct : List (List ℕ) → Type 0
IsDistinct [] = Unit {0}
IsDistinct (k ∷ ks) = IsNew k ks × IsDistinct ks

-- the value at the first pair with this key
abbrev pub value_at : {T : Type 0} → List ℕ → List (Pair T) → Option T
value_at k [] = None
value_at k (p ∷ ps) = if bytes_eq p.key k then Some p.value else value_at k ps

-- the pairs after the key got this value: in its old place, or at the end where it is new
abbrev pub put : {T : Type 0} → List (Pair T) → List ℕ → T → List (Pair T)
put [] k v = record { key = k; value = v } ∷ []
put (p ∷ ps) k v = if bytes_eq p.key k then record { key = k; value = v } ∷ ps else p ∷ put ps k v
