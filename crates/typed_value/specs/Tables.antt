-- A value as a table of its nodes: itself and the values in it, each before its parts, with the number of
-- nodes below it.
use Rattle.std.specs.Prelude.{◌≡◌, ℕ, ◌+◌, List, [], ◌∷◌, ◌++◌, map, sum}
use Rattle.typed_value.specs.declared.node.Node.{Node}
use Rattle.typed_value.specs.declared.typed.Typed.{Typed, out-Typed}
use Rattle.typed_value.specs.declared.typed.Typed.TheVariants.{Null}
use Rattle.typed_value.specs.declared.typed.Typed.TheOpen.{Typed-F}
use Rattle.typed_value.specs.declared.typed.Typed.TheFolds.{fold-Typed}

-- the items of a list, or the values of a structure or map
abbrev pub parts_in : {X : Type 0} → Typed-F X → List X
parts_in (Typed-F.Items xs) = xs
parts_in (Typed-F.Fields ps) = map (λ p. p.value) ps
parts_in others = []

abbrev pub count_step : Typed-F ℕ → ℕ
count_step value = sum (parts_in value) + 1

-- how many nodes a value has: each value in it is one
abbrev pub count_of : Typed → ℕ
count_of = fold-Typed ℕ count_step

-- the nodes are those of these values, one after another
abbrev pub AreNodes : List Node → List Typed → Type 0
AreNodes [] [] = Unit {0}
AreNodes [] (v ∷ vs) = ⊥
AreNodes (n ∷ ns) [] = ⊥
AreNodes (n ∷ ns) (v ∷ vs) = (n.value.now ≡ v) × (n.below + 1 ≡ count_of v) × AreNodes ns (parts_in (out-Typed v) ++ vs)

-- the value whose node comes first
abbrev pub root_of : List Node → Typed
root_of [] = Null
root_of (n ∷ ns) = n.value.now

-- the nodes of one value
abbrev pub IsTable : List Node → Type 0
IsTable ns = AreNodes ns (root_of ns ∷ [])
